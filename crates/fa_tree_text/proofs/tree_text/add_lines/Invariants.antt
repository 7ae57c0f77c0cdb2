use Rattle.std.proofs.Common.{List, ℕ, [], ◌+◌, ◌≤◌, length}
use Rattle.fa_tree_text.specs.TreeText.{BeginsTree}
use Rattle.fa_tree_text.specs.parts.Folders.{AreFound}
use Rattle.fa_tree_text.proofs.TreeLemmas.{IsTreeSoFar}
use Rattle.fa_tree_text.proofs.tree_text.add_lines.Given as goal

abbrev pub invariant-loop-last_name : goal.invariant-loop-last_name
invariant-loop-last_name l =
    record {
      so_far : (bytes : List ℕ) (bits : ℕ) → BeginsTree bytes bits [] l.fn.tree l.fn.left → IsTreeSoFar bytes bits l.tree l.left l.line;
      counted : l.line + length l.left ≤ 3 + length l.fn.left;
      found : AreFound l.tree.store l.folders;
    }

abbrev pub decreases-loop-last_name : goal.decreases-loop-last_name
decreases-loop-last_name l = length l.left
