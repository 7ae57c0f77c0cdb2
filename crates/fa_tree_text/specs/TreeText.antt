-- Tree texts: a first line, the line of the root, a line for each file and each further name, and a last line. The format is
-- this profile's.
use Rattle.std.specs.Prelude.{◌≡◌, ◌≢◌, ◌≤◌, ◌+◌, ◌⊎◌, ℕ, List, [], ◌∷◌, ◌++◌, length, codes}
use Rattle.std.specs.List.{flat_map}
use Rattle.fa_tree.specs.State.{TreeState}
use Rattle.fa_tree.specs.Attributes.{all_bits}
use Rattle.fa_tree.specs.Building.{empty_tree}
use Rattle.fa_order.specs.Lines.{line_of, end_line, LacksLine}
use Rattle.fa_tree_text.specs.TreeLines.{TreeLine, octal, line_text, Adds}

-- the first line
abbrev pub tree_first_line : List ℕ
tree_first_line = line_of (codes "fuse-tree 1")

-- the line of the root, with its permission bits
abbrev pub root_line : (bits : ℕ) → List ℕ
root_line bits = line_of (codes "root " ++ octal bits)

-- the first line, the root's, and these
abbrev pub tree_opening : (bits : ℕ) → List TreeLine → List ℕ
tree_opening bits lines = tree_first_line ++ (root_line bits ++ flat_map line_text lines)

-- a whole text
abbrev pub tree_text : (bits : ℕ) → List TreeLine → List ℕ
tree_text bits lines = tree_opening bits lines ++ end_line

-- these lines in turn lead from the old tree to the new one
abbrev pub Builds : (old new : TreeState) → List TreeLine → Type 0
Builds old new [] = new ≡ old
Builds old new (line ∷ lines) = (next : TreeState) × Adds old next line × Builds next new lines

-- the bytes begin with the lines of this tree, and with nothing else before the rest
pub record BeginsTree (bytes : List ℕ) (bits : ℕ) (lines : List TreeLine) (tree : TreeState) (rest : List ℕ) : Type 0 where
  pub are_bits : bits ≤ all_bits
  pub built : Builds (empty_tree bits) tree lines
  pub spelled : bytes ≡ tree_opening bits lines ++ rest

-- The bytes are a text of this tree.
pub record IsTreeText (bytes : List ℕ) (tree : TreeState) : Type 0 where
  pub bits : ℕ
  pub lines : List TreeLine
  pub text : BeginsTree bytes bits lines tree end_line

-- ---- the line of a fault

-- the bytes begin with no line of a root
abbrev pub LacksRoot : List ℕ → Type 0
LacksRoot bytes = (bits : ℕ) → bits ≤ all_bits → LacksLine bytes (root_line bits)

-- the bytes begin with no line whose file or name may be added to the tree
abbrev pub LacksAddition : TreeState → List ℕ → Type 0
LacksAddition tree bytes = (line : TreeLine) (new : TreeState) → Adds tree new line → LacksLine bytes (line_text line)

-- the first line is not there
pub record LacksTreeFirstLine (bytes : List ℕ) (line : ℕ) : Type 0 where
  pub place : line ≡ 1
  pub lacks : LacksLine bytes tree_first_line

-- behind the first line the root's is not there
pub record LacksRootLine (bytes : List ℕ) (line : ℕ) : Type 0 where
  pub rest : List ℕ
  pub spelled : bytes ≡ tree_first_line ++ rest
  pub no_root : LacksRoot rest
  pub place : line ≡ 2

-- Behind the lines of a tree comes the rest, which begins neither with a line that adds to this tree nor with the last line. The
-- rest may be empty.
pub record LacksNextTreeLine (bytes : List ℕ) (line : ℕ) : Type 0 where
  pub bits : ℕ
  pub lines : List TreeLine
  pub tree : TreeState
  pub rest : List ℕ
  pub begins : BeginsTree bytes bits lines tree rest
  pub no_addition : LacksAddition tree rest
  pub no_end : LacksLine rest end_line
  pub place : line ≡ length lines + 3

-- Behind a whole text comes a rest.
pub record TreeGoesOn (bytes : List ℕ) (line : ℕ) : Type 0 where
  pub bits : ℕ
  pub lines : List TreeLine
  pub tree : TreeState
  pub rest : List ℕ
  pub begins : BeginsTree bytes bits lines tree (end_line ++ rest)
  pub some : rest ≢ []
  pub place : line ≡ length lines + 4

-- The bytes are no tree text, and this is the line of their fault, counted from 1.
abbrev pub IsTreeFault : List ℕ → ℕ → Type 0
IsTreeFault bytes line = LacksTreeFirstLine bytes line ⊎ (LacksRootLine bytes line ⊎ (LacksNextTreeLine bytes line ⊎ TreeGoesOn bytes line))
