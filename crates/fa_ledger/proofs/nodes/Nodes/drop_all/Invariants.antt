use Rattle.std.proofs.Common.{◌≡◌, ℕ, List, ◌++◌}
use Rattle.std.specs.Prelude.{nat_eq}
use Rattle.indexmap.specs.IndexMap.{get}
use Rattle.fa_bodies.specs.Items.{items_in, items_left}
use Rattle.fa_ledger.specs.Counts.{total_taken}
use Rattle.fa_ledger.specs.parts.Steps.{but_root, IsDropped}
use Rattle.fa_ledger.proofs.nodes.Nodes.drop_all.Given as goal

-- the nodes of the items so far are out of the table, where no lookup is left of them
abbrev pub invariant-loop-id : goal.invariant-loop-id
invariant-loop-id l =
    (goal.iterator-loop-id).can_next l.id-iterator
    × (goal.iterator-loop-id).is_finite l.id-iterator
    × ((front : List (ℕ × ℕ)) × (items_in l.bytes ≡ front ++ items_left l.id-iterator)
    × ((node : ℕ) → IsDropped (total_taken node (but_root front)) (get nat_eq l.initial.self.known node) (get nat_eq l.self.known node)))
