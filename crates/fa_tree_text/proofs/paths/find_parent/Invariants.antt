use Rattle.std.proofs.Common.{ℕ, List, length}
use Rattle.fa_tree.specs.declared.id.FileId.{FileId}
use Rattle.fa_tree.specs.State as state
use Rattle.fa_tree_text.specs.parts.Ways.{Reaches}
use Rattle.fa_tree_text.proofs.paths.find_parent.Given as goal

abbrev pub invariant-loop-spelled : goal.invariant-loop-spelled
invariant-loop-spelled l = record {
  forth : (to : FileId) (last : List ℕ) → Reaches l.tree.store l.directory l.left to last → Reaches l.tree.store state.root l.path to last;
  back : (to : FileId) (last : List ℕ) → Reaches l.tree.store state.root l.path to last → Reaches l.tree.store l.directory l.left to last;
}

abbrev pub decreases-loop-spelled : goal.decreases-loop-spelled
decreases-loop-spelled l = length l.left
