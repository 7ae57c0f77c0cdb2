-- What follows from the definitions alone.
use Rattle.std.specs.Prelude.{◌≡◌, ◌⊎◌, ℕ, List}
use Rattle.fa_tree.specs.State.{TreeState}
use Rattle.fa_tree_text.specs.TreeText.{IsTreeText, IsTreeFault}

-- bytes are the text of one tree at most
abbrev pub OneTreeText : Type 0
OneTreeText = (bytes : List ℕ) (tree other : TreeState) → IsTreeText bytes tree → IsTreeText bytes other → tree ≡ other

-- bytes have their fault as a tree text at one line at most
abbrev pub OneTreeFault : Type 0
OneTreeFault = (bytes : List ℕ) (m n : ℕ) → IsTreeFault bytes m → IsTreeFault bytes n → m ≡ n

-- a tree text has no fault
abbrev pub TreeTextHasNoFault : Type 0
TreeTextHasNoFault = (bytes : List ℕ) (tree : TreeState) (n : ℕ) → IsTreeText bytes tree → IsTreeFault bytes n → ⊥

-- bytes that are no tree text have a fault
abbrev pub TreeTextOrFault : Type 0
TreeTextOrFault =
    (bytes : List ℕ) → ((((tree : TreeState) × IsTreeText bytes tree) ⊎ ((n : ℕ) × IsTreeFault bytes n)) → ⊥) → ⊥
