use Rattle.std.proofs.Common.{◌≤◌, ◌+◌, length}
use Rattle.indexmap.specs.IndexMap.{spare}
use Rattle.fa_tree.specs.parts.NodeParts.{nodes_shown}
use Rattle.fa_tree.proofs.NodeLemmas.{AreSeen}
use Rattle.fa_tree.proofs.nodes.Nodes.may_bind_all.Given as goal

-- the names so far may be given, and there is room for the others
abbrev pub invariant-loop-one : goal.invariant-loop-one
invariant-loop-one l = AreSeen (nodes_shown l.self) (nodes_shown l.seen) l.given l.one-index × (length l.given ≤ spare l.seen.files + l.one-index)
