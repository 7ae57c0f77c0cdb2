-- In the tree of a tree text no request has made a file.
use Rattle.std.proofs.Common.{ℕ, List, [], ◌∷◌, sym, subst}
use Rattle.fa_tree.specs.State.{TreeState}
use Rattle.fa_tree.specs.Making.{HasMadeNone}
use Rattle.fa_tree.specs.Building.{file_of_kind, empty_tree}
use Rattle.fa_tree.proofs.CallerLemmas.{empty_made_none, added_made_none}
use Rattle.fa_tree_text.specs.Paths.{name_of}
use Rattle.fa_tree_text.specs.TreeLines.{TreeLine, Adds}
use Rattle.fa_tree_text.specs.TreeLines.TreeLine.{NewFile, FurtherName}
use Rattle.fa_tree_text.specs.TreeText.{Builds, IsTreeText}

-- a line adds no file of a request
line_made_none : (old new : TreeState) (line : TreeLine) (asked : ℕ) → Adds old new line → HasMadeNone old.store asked → HasMadeNone new.store asked
line_made_none old new (NewFile kind bits path spelled) asked is none =
    subst (λ (t : TreeState). HasMadeNone t.store asked) (sym is.added) (added_made_none old is.parent (name_of path) (file_of_kind kind bits is.body) asked none)
line_made_none old new (FurtherName path older) asked is none = subst (λ (t : TreeState). HasMadeNone t.store asked) (sym is.added) none

-- nor do lines
lines_made_none : (old new : TreeState) (lines : List TreeLine) (asked : ℕ) → Builds old new lines → HasMadeNone old.store asked → HasMadeNone new.store asked
lines_made_none old new [] asked built none = subst (λ (t : TreeState). HasMadeNone t.store asked) (sym built) none
lines_made_none old new (line ∷ lines) asked built none =
    lines_made_none built.0 new lines asked built.2 (line_made_none old built.0 line asked built.1 none)

-- so the tree of a text has none
pub text_made_none : (bytes : List ℕ) (tree : TreeState) (asked : ℕ) → IsTreeText bytes tree → HasMadeNone tree.store asked
text_made_none bytes tree asked is = lines_made_none (empty_tree is.bits) tree is.lines asked is.text.built (empty_made_none is.bits asked)
