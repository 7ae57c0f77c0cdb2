use Rattle.std.proofs.Common.{◌≡◌, ◌≤◌, ◌+◌, length, drop}
use Rattle.indexmap.specs.IndexMap.{spare}
use Rattle.fa_tree.specs.Bindings.{nodes_after}
use Rattle.fa_tree.specs.parts.NodeParts.{nodes_shown}
use Rattle.fa_tree.proofs.nodes.Nodes.bind_all.Given as goal

-- what is left makes the whole, and there is room for it
abbrev pub invariant-loop-one : goal.invariant-loop-one
invariant-loop-one l =
    (nodes_after (drop l.one-index l.given) (nodes_shown l.self) ≡ nodes_after l.given (nodes_shown l.initial.self))
    × (length l.given ≤ spare l.self.files + l.one-index)
