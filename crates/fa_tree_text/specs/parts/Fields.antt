-- The fields of lines.
use Rattle.std.specs.Prelude.{◌≡◌, ◌≤◌, ℕ, List, ◌∷◌, ◌++◌, codes, Option}
use Rattle.std.specs.Option.{option_copied}
use Rattle.fa_bodies.specs.declared.mode.Kind.{Kind}
use Rattle.fa_tree.specs.Attributes.{all_bits}
use Rattle.fa_tree_text.specs.declared.fields.Fields.{Fields}
use Rattle.fa_tree_text.specs.declared.fields.Fields.TheVariants.{File, Name}
use Rattle.fa_tree_text.specs.TreeLines.{letter, octal, body_text}
use Rattle.fa_bodies.specs.Names.{LacksByte}

-- the fields of a file, in a line
abbrev pub file_text : Kind → (bits : ℕ) → (path : List ℕ) → (body : Option (List ℕ)) → List ℕ
file_text kind bits path body = letter kind ++ 32 ∷ (octal bits ++ 32 ∷ (path ++ body_text body))

-- the fields of a further name, in a line
abbrev pub name_text : (path older : List ℕ) → List ℕ
name_text path older = codes "h" ++ 32 ∷ (path ++ 32 ∷ older)

-- the line has these fields of a file
pub record IsFileLine (line : List ℕ) (kind : Kind) (bits : ℕ) (path : List ℕ) (body : Option (List ℕ)) : Type 0 where
  pub are_bits : bits ≤ all_bits
  pub no_space : LacksByte 32 path
  pub spelled : line ≡ file_text kind bits path body

-- the line has these fields of a further name
pub record IsNameLine (line path older : List ℕ) : Type 0 where
  pub no_space : LacksByte 32 path
  pub spelled : line ≡ name_text path older

-- the line has these fields
abbrev pub HasFields : List ℕ → Fields → Type 0
HasFields line (File f) = IsFileLine line f.kind f.bits f.path.now (option_copied f.body)
HasFields line (Name n) = IsNameLine line n.path.now n.older.now

-- the line has no fields of a file
abbrev pub LacksFile : List ℕ → Type 0
LacksFile line = (kind : Kind) (bits : ℕ) (path : List ℕ) (body : Option (List ℕ)) → IsFileLine line kind bits path body → ⊥

-- the line has no fields of a further name
abbrev pub LacksName : List ℕ → Type 0
LacksName line = (path older : List ℕ) → IsNameLine line path older → ⊥
