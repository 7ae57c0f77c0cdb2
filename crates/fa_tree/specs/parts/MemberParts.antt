-- The places of each directory, by their indexes in the table of places.
use Rattle.std.specs.Prelude.{◌≡◌, ℕ, Bool, nat_eq, List, [], Vec, Some, IsTrue, slice_get}
use Rattle.std.specs.List.{list_any}
use Rattle.std.specs.Map.{lookup}
use Rattle.std.specs.Option.{option_map_or}
use Rattle.std.specs.declared.alloc.Global.{Global}
use Rattle.fa_tree.specs.declared.id.FileId.{FileId}
use Rattle.fa_tree.specs.contracts.id.FileIdPartialEq.TheImpl as derived
use Rattle.fa_tree.specs.declared.slots.Place.{Place}

-- the indexes of a directory
abbrev pub members_of : List (FileId × Vec ℕ Global) → FileId → List ℕ
members_of table directory = option_map_or (λ indexes. indexes.items) (lookup (derived.eq-value.it directory) table) []

-- whether an index is one of the directory
abbrev pub is_member : List (FileId × Vec ℕ Global) → FileId → ℕ → Bool
is_member table directory index = list_any (nat_eq index) (members_of table directory)

-- the index of each place is one of its directory
abbrev pub AreMembers : List Place → List (FileId × Vec ℕ Global) → Type 0
AreMembers places table = (index : ℕ) (place : Place) → slice_get places index ≡ Some place → IsTrue (is_member table place.directory index)
