-- What comes of a line.
use Rattle.std.specs.Prelude.{◌≡◌, ℕ, Bool, MatchBool, List, Option}
use Rattle.fa_bodies.specs.declared.mode.Kind.{Kind}
use Rattle.fa_tree.specs.State.{TreeState}
use Rattle.fa_tree_text.specs.Paths.{Path, path_text}
use Rattle.fa_tree_text.specs.TreeLines.{TreeLine, fields_text, Adds, AddsFile, AddsName}

-- the file was added, or may not be added and the tree is as it was
abbrev pub IsFileAdded : Bool → (old new : TreeState) → Kind → (bits : ℕ) → (path : List ℕ) → (body : Option (List ℕ)) → Type 0
IsFileAdded added old new kind bits path body =
    MatchBool added ((p : Path) × (path ≡ path_text p) × AddsFile old new kind bits p body)
    (((p : Path) (other : TreeState) → path ≡ path_text p → AddsFile old other kind bits p body → ⊥) × (new ≡ old))

-- the name was added, or may not be added and the tree is as it was
abbrev pub IsNameAdded : Bool → (old new : TreeState) → (path older : List ℕ) → Type 0
IsNameAdded added old new path older =
    MatchBool added ((p q : Path) × (path ≡ path_text p) × (older ≡ path_text q) × AddsName old new p q)
    (((p q : Path) (other : TreeState) → path ≡ path_text p → older ≡ path_text q → AddsName old other p q → ⊥) × (new ≡ old))

-- what the line says was added, or may not be added and the tree is as it was
abbrev pub IsLineAdded : Bool → (old new : TreeState) → (fields : List ℕ) → Type 0
IsLineAdded added old new fields =
    MatchBool added ((line : TreeLine) × Adds old new line × (fields ≡ fields_text line))
    (((line : TreeLine) (other : TreeState) → Adds old other line → fields ≡ fields_text line → ⊥) × (new ≡ old))
