-- Names that came into a directory after it was opened, by the order in which its places came.
use Rattle.std.specs.Prelude.{◌≡◌, ◌⊎◌, ◌∷◌, ◌++◌, [], ◌≤◌, ℕ, List, length, map, cond, Option, Some, None, Vec, slice_get}
use Rattle.std.specs.Map.{keys_of}
use Rattle.std.specs.Option.{option_and_then}
use Rattle.std.specs.declared.alloc.Global.{Global}
use Rattle.fa_tree.specs.declared.id.FileId.{FileId}
use Rattle.fa_tree.specs.declared.open.Opening.{Opening}
use Rattle.fa_tree.specs.declared.slots.Place.{Place}
use Rattle.fa_tree.specs.declared.slots.Slot.{Slot}
use Rattle.fa_tree.specs.State as state
use Rattle.fa_tree.specs.State.{file_eq}
use Rattle.fa_tree.specs.parts.MemberParts.{members_of}
use Rattle.fa_tree.specs.parts.NameViews.{has_stayed}
use Rattle.fa_tree.specs.parts.SlotParts.{place_of, slot_at}

-- no file stayed at the place since so many openings
abbrev pub HasNotStayed : (at : ℕ) → Option Slot → Type 0
HasNotStayed at slot = option_and_then (has_stayed at) slot ≡ None

-- the places of a table, in the order in which they came
abbrev pub places_of : List (Place × Slot) → List state.Place
places_of slots = map place_of (keys_of slots)

-- Of these places of a directory, by their indexes, those behind so many have none whose file stayed since so many openings.
abbrev pub NoneStayedBehind : List (Place × Slot) → (members : List ℕ) → (at old_places : ℕ) → Type 0
NoneStayedBehind slots members at old_places =
    (k index : ℕ) (place : state.Place) → old_places ≤ k → slice_get members k ≡ Some index → slice_get (places_of slots) index ≡ Some place → HasNotStayed at (slot_at slots place)

-- So it is of each opening and the places of its directory behind those that it noted.
abbrev pub AreOldPlaces : List (Place × Slot) → List (FileId × Vec ℕ Global) → List Opening → Type 0
AreOldPlaces slots table openings = (at : ℕ) (o : Opening) → slice_get openings at ≡ Some o → NoneStayedBehind slots (members_of table o.directory) at o.old_places

-- the places are as they were, and those of each directory
abbrev pub AreSamePlaces : (old : List (Place × Slot)) (before : List (FileId × Vec ℕ Global)) (new : List (Place × Slot)) (after : List (FileId × Vec ℕ Global)) → Type 0
AreSamePlaces old before new after = (places_of new ≡ places_of old) × ((of : FileId) → members_of after of ≡ members_of before of)

-- this one came behind them
abbrev pub IsOnePlaceMore : state.Place → (old : List (Place × Slot)) (before : List (FileId × Vec ℕ Global)) (new : List (Place × Slot)) (after : List (FileId × Vec ℕ Global)) → Type 0
IsOnePlaceMore place old before new after =
    (places_of new ≡ places_of old ++ place ∷ [])
    × ((of : FileId) → members_of after of ≡ cond (file_eq of place.0) (members_of before of ++ length (places_of old) ∷ []) (members_of before of))

-- the places are as they were, or this one came behind them
abbrev pub ArePlacesKept : state.Place → (old : List (Place × Slot)) (before : List (FileId × Vec ℕ Global)) (new : List (Place × Slot)) (after : List (FileId × Vec ℕ Global)) → Type 0
ArePlacesKept place old before new after = AreSamePlaces old before new after ⊎ IsOnePlaceMore place old before new after
