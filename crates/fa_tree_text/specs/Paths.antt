-- Paths in a tree text: names of directories from the root down and a last name, parted by slashes. Names are spelled in visible
-- ASCII, where a byte may be percent-encoded. The format is this profile's.
use Rattle.std.specs.Prelude.{◌≡◌, ◌≢◌, ◌≤◌, ◌+◌, ℕ, List, [], ◌∷◌, ◌++◌, All, IsTrue, slice_index}
use Rattle.std.specs.List.{flat_map}
use Rattle.hex.specs.Hex.{is_hex_digit}
use Rattle.percent_encoding.specs.Percent.{percent_sign, percent_decode}
use Rattle.fa_bodies.specs.Names.{IsName}
use Rattle.fa_tree.specs.declared.id.FileId.{FileId}
use Rattle.fa_tree.specs.State.{Store, root, HasName}

-- a path, each name as it is spelled
pub record Path : Type 0 where
  pub directories : List (List ℕ)
  pub name : List ℕ

-- a directory's name in a path, and the slash behind it
abbrev pub slashed : List ℕ → List ℕ
slashed name = name ++ 47 ∷ []

-- a path, as it stands in a line
abbrev pub path_text : Path → List ℕ
path_text path = flat_map slashed path.directories ++ path.name

-- a byte that a spelled name may have: visible ASCII, but no slash
abbrev pub IsSpelledByte : ℕ → Type 0
IsSpelledByte b = (33 ≤ b) × (b ≤ 126) × (b ≢ 47)

-- a hexadecimal digit, of either case, stands at this place
abbrev pub HasHexDigit : List ℕ → (place : ℕ) → Type 0
HasHexDigit spelled place = IsTrue (is_hex_digit (slice_index spelled place))

-- behind each `%` stand two hexadecimal digits (percent-encoding of RFC 3986)
abbrev pub HasWholeEscapes : List ℕ → Type 0
HasWholeEscapes spelled =
    (place : ℕ) → slice_index spelled place ≡ percent_sign → HasHexDigit spelled (place + 1) × HasHexDigit spelled (place + 2)

-- These bytes spell a name: what they decode to is a name as a request may have it.
pub record IsSpelledName (spelled : List ℕ) : Type 0 where
  pub each_byte : All IsSpelledByte spelled
  pub escapes : HasWholeEscapes spelled
  pub name : IsName (percent_decode spelled)

-- each of its names is spelled so
pub record IsPath (path : Path) : Type 0 where
  pub directories : All IsSpelledName path.directories
  pub name : IsSpelledName path.name

-- the last name, decoded
abbrev pub name_of : Path → List ℕ
name_of path = percent_decode path.name

-- From a directory of the tree these names, decoded, lead down to a file.
abbrev pub LeadsTo : Store → (from : FileId) → (names : List (List ℕ)) → (to : FileId) → Type 0
LeadsTo s from [] to = to ≡ from
LeadsTo s from (name ∷ names) to = (next : FileId) × HasName s from (percent_decode name) next × LeadsTo s next names to

-- the directories of the path lead from the root to this one
abbrev pub IsParentOf : Store → (parent : FileId) → Path → Type 0
IsParentOf s parent path = LeadsTo s root path.directories parent

-- the path leads to this file
abbrev pub IsAt : Store → (file : FileId) → Path → Type 0
IsAt s file path = (parent : FileId) × IsParentOf s parent path × HasName s parent (name_of path) file
