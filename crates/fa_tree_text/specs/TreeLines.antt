-- The lines of a tree text that add something to the tree, as they are spelled. The format is this profile's.
use Rattle.std.specs.Prelude.{◌≡◌, ◌≤◌, ◌⊎◌, ◌+◌, ◌/◌, ◌%◌, ℕ, List, [], ◌∷◌, ◌++◌, length, codes, Option, None, Some, Ok}
use Rattle.hex.specs.Hex.{decode_of}
use Rattle.fa_bodies.specs.declared.mode.Kind.{Kind}
use Rattle.fa_bodies.specs.declared.mode.Kind.TheVariants.{Fifo, CharDevice, Directory, BlockDevice, Regular, Symlink, Socket}
use Rattle.fa_tree.specs.declared.id.FileId.{FileId}
use Rattle.fa_tree.specs.State.{TreeState}
use Rattle.fa_tree.specs.Attributes.{all_bits}
use Rattle.fa_tree.specs.Building.{file_of_kind, MayBeAdded, tree_added, MayBeLinkedTo, tree_linked}
use Rattle.fa_order.specs.Lines.{line_of}
use Rattle.fa_tree_text.specs.Paths.{Path, path_text, IsPath, name_of, IsParentOf, IsAt}

-- A line adds a new file, of this type, with these permission bits, at this path, and with what spells its bytes; or a further
-- name for the file that an older path leads to.
pub data TreeLine : Type 0 where
  NewFile : Kind → (bits : ℕ) → Path → (body : Option (List ℕ)) → TreeLine
  FurtherName : Path → (older : Path) → TreeLine

-- ---- what stands in a line

-- the letter of a type
abbrev pub letter : Kind → List ℕ
letter Directory = codes "d"
letter Regular = codes "f"
letter Symlink = codes "s"
letter Fifo = codes "p"
letter CharDevice = codes "c"
letter BlockDevice = codes "b"
letter Socket = codes "k"

-- permission bits, as three octal digits
abbrev pub octal : ℕ → List ℕ
octal bits = (48 + bits / 64) ∷ (48 + bits / 8 % 8) ∷ (48 + bits % 8) ∷ []

-- what stands behind the path: nothing, or a space and what spells the bytes
abbrev pub body_text : Option (List ℕ) → List ℕ
body_text None = []
body_text (Some spelled) = 32 ∷ spelled

-- a line without its line feed: fields, each parted from the next by one space
abbrev pub fields_text : TreeLine → List ℕ
fields_text (NewFile kind bits path body) = letter kind ++ 32 ∷ (octal bits ++ 32 ∷ (path_text path ++ body_text body))
fields_text (FurtherName path older) = codes "h" ++ 32 ∷ (path_text path ++ 32 ∷ path_text older)

-- a whole line
abbrev pub line_text : TreeLine → List ℕ
line_text line = line_of (fields_text line)

-- ---- what a line says

-- two hexadecimal digits or more, of either case, which spell these bytes
abbrev pub SpellsBytes : Option (List ℕ) → List ℕ → Type 0
SpellsBytes None bytes = ⊥
SpellsBytes (Some digits) bytes = (2 ≤ length digits) × (decode_of digits ≡ Ok bytes)

-- What spells a file's bytes: of a regular file hexadecimal digits, or `-` for no bytes; of a symbolic link its target's
-- hexadecimal digits; of any other file nothing.
abbrev pub SpellsBody : Kind → Option (List ℕ) → (body : List ℕ) → Type 0
SpellsBody Regular spelled body = SpellsBytes spelled body ⊎ ((spelled ≡ Some (codes "-")) × (body ≡ []))
SpellsBody Symlink spelled body = SpellsBytes spelled body
SpellsBody Directory spelled body = (spelled ≡ None) × (body ≡ [])
SpellsBody Fifo spelled body = (spelled ≡ None) × (body ≡ [])
SpellsBody CharDevice spelled body = (spelled ≡ None) × (body ≡ [])
SpellsBody BlockDevice spelled body = (spelled ≡ None) × (body ≡ [])
SpellsBody Socket spelled body = (spelled ≡ None) × (body ≡ [])

-- The new file may be added where its path says, and the new tree is the old one with it.
pub record AddsFile (old new : TreeState) (kind : Kind) (bits : ℕ) (path : Path) (spelled : Option (List ℕ)) : Type 0 where
  pub parent : FileId
  pub body : List ℕ
  pub is_path : IsPath path
  pub is_parent : IsParentOf old.store parent path
  pub are_bits : bits ≤ all_bits
  pub is_body : SpellsBody kind spelled body
  pub allowed : MayBeAdded old parent (name_of path) kind body
  pub added : new ≡ tree_added old parent (name_of path) (file_of_kind kind bits body)

-- The further name may be added where its path says, for the file at the older path, and the new tree is the old one with it.
pub record AddsName (old new : TreeState) (path older : Path) : Type 0 where
  pub parent : FileId
  pub file : FileId
  pub is_path : IsPath path
  pub is_parent : IsParentOf old.store parent path
  pub is_older : IsPath older
  pub is_file : IsAt old.store file older
  pub allowed : MayBeLinkedTo old parent (name_of path) file
  pub added : new ≡ tree_linked old parent (name_of path) file

-- what the line adds may be added, and the new tree is the old one with it
abbrev pub Adds : (old new : TreeState) → TreeLine → Type 0
Adds old new (NewFile kind bits path body) = AddsFile old new kind bits path body
Adds old new (FurtherName path older) = AddsName old new path older
