-- Maps, and open directories, of which one has what another has.
use Rattle.std.specs.Prelude.{◌≡◌, ℕ, List, Some, true, slice_get}
use Rattle.std.specs.FinMap.{FinMap, get}
use Rattle.std.specs.FinSet.{contains}
use Rattle.std.specs.declared.cmp.Ordering.{Ordering}
use Rattle.fa_tree.specs.State.{OpenDirectory}
use Rattle.fa_tree.specs.declared.id.FileId.{FileId}
use Rattle.fa_tree.specs.declared.slots.Place.{Place}
use Rattle.fa_tree.specs.declared.slots.Slot.{Slot}
use Rattle.fa_tree.specs.parts.NameViews.{was_since, has_stayed}

-- each key of a map has the same in another
abbrev pub IsMapWithin : {K X : Type 0} {R : K → K → Ordering} → FinMap R X → FinMap R X → Type 0
IsMapWithin {K} {X} m n = (key : K) (x : X) → get m key ≡ Some x → get n key ≡ Some x

-- each name that was in an open directory was in another, and the same file stayed there under it, if one did
pub record IsOpenWithin (h other : OpenDirectory) : Type 0 where
  pub since : (name : List ℕ) → contains h.since name ≡ true → contains other.since name ≡ true
  pub stayed : (name : List ℕ) → contains h.since name ≡ true → get h.stayed name ≡ get other.stayed name

-- So is the name of the slot at an index, if it was in this directory since so many openings.
pub record IsSlotWithin (directory : FileId) (at : ℕ) (slots : List (Place × Slot)) (index : ℕ) (other : OpenDirectory) : Type 0 where
  pub known : (place : Place) (slot : Slot) → slice_get slots index ≡ Some (place, slot) → place.directory ≡ directory → was_since at slot ≡ true
      → (contains other.since place.name.items ≡ true) × (get other.stayed place.name.items ≡ has_stayed at slot)
