use Rattle.std.proofs.Common.{◌≡◌, ℕ, List, ◌++◌, length}
use Rattle.fa_bodies.specs.Items.{items_in, items_left}
use Rattle.fa_ledger.proofs.TakingLemmas.{AreLowered}
use Rattle.fa_ledger.proofs.nodes.Nodes.lower_all.Given as goal

-- the items so far were within and are taken
abbrev pub invariant-loop-id : goal.invariant-loop-id
invariant-loop-id l =
    (goal.iterator-loop-id).can_next l.id-iterator
    × (goal.iterator-loop-id).is_finite l.id-iterator
    × ((front : List (ℕ × ℕ)) × (items_in l.bytes ≡ front ++ items_left l.id-iterator) × (length front ≡ l.done)
    × AreLowered front l.initial.self.known.entries l.self.known.entries)
