use Rattle.std.proofs.Common.{◌≡◌, ℕ, ◌+◌, ◌≤◌, length, take}
use Rattle.std.specs.Prelude.{nat_eq, IsTrue}
use Rattle.indexmap.specs.IndexMap.{get, spare}
use Rattle.fa_ledger.specs.parts.Steps.{given_again, times_named, some_new}
use Rattle.fa_ledger.proofs.nodes.Nodes.give.Given as goal

-- the names so far were given, and there is room for the others
abbrev pub invariant-loop-name : goal.invariant-loop-name
invariant-loop-name l =
    ((node : ℕ) → get nat_eq l.self.known node ≡ given_again l.at (times_named node (take l.name-index l.names)) (get nat_eq l.initial.self.known node))
    × (IsTrue (some_new l.initial.self.known.entries l.names) → length l.names ≤ spare l.self.known + l.name-index)
