-- The names, and the directories that are open, that slots and openings stand for.
use Rattle.std.specs.Prelude.{◌≤◌, ◌+◌, ℕ, Bool, true, false, List, [], ◌∷◌, Option, Some, None, cond, nat_lt}
use Rattle.std.specs.Ordering.{nat_cmp}
use Rattle.std.specs.declared.cmp.Ordering.{Ordering}
use Rattle.std.specs.FinMap as map
use Rattle.std.specs.FinMap.{FinMap}
use Rattle.std.specs.FinSet as set
use Rattle.std.specs.FinSet.{FinSet}
use Rattle.fa_tree.specs.declared.id.FileId.{FileId}
use Rattle.fa_tree.specs.State as state
use Rattle.fa_tree.specs.State.{name_cmp, file_eq, OpenDirectory}
use Rattle.fa_tree.specs.declared.slots.Place.{Place}
use Rattle.fa_tree.specs.declared.slots.Slot.{Slot}
use Rattle.fa_tree.specs.declared.slots.Slot.TheVariants.{There, Gone}
use Rattle.fa_tree.specs.declared.open.Opening.{Opening}
use Rattle.fa_tree.specs.parts.SlotParts.{slot_at, put_or_not, names_shown}
use Rattle.fa_tree.specs.parts.NameParts.{NamesShown}

-- whether a name was there at some moment since so many openings
abbrev pub was_since : ℕ → Slot → Bool
was_since at (There file born) = true
was_since at (Gone gone) = nat_lt at gone

-- the file that stayed since so many openings
abbrev pub has_stayed : ℕ → Slot → Option FileId
has_stayed at (There file born) = cond (nat_lt at born) None (Some file)
has_stayed at (Gone gone) = None

-- the key in the set, or out of it
abbrev pub in_or_out : {K : Type 0} {R : K → K → Ordering} → FinSet R → K → Bool → FinSet R
in_or_out s k true = set.insert s k
in_or_out s k false = set.remove s k

-- the names that were in a directory since so many openings
abbrev pub since_shown : (directory : FileId) (at : ℕ) → List (Place × Slot) → FinSet name_cmp
since_shown directory at [] = set.empty
since_shown directory at (e ∷ slots) =
    cond (file_eq directory e.0.directory) (in_or_out (since_shown directory at slots) e.0.name.items (was_since at e.1)) (since_shown directory at slots)

-- the names in a directory whose files stayed since so many openings
abbrev pub stayed_shown : (directory : FileId) (at : ℕ) → List (Place × Slot) → FinMap name_cmp FileId
stayed_shown directory at [] = map.empty
stayed_shown directory at (e ∷ slots) =
    cond (file_eq directory e.0.directory) (put_or_not (stayed_shown directory at slots) e.0.name.items (has_stayed at e.1)) (stayed_shown directory at slots)

-- a directory that was opened when so many were
abbrev pub open_shown : List (Place × Slot) → (directory : FileId) (at : ℕ) → OpenDirectory
open_shown slots directory at = record { directory = directory; since = since_shown directory at slots; stayed = stayed_shown directory at slots }

-- The directories that are open, after more openings, of which the first is the one of this number. Of two by one request
-- the last counts.
abbrev pub handles_shown : List (Place × Slot) → (at : ℕ) → FinMap nat_cmp OpenDirectory → List Opening → FinMap nat_cmp OpenDirectory
handles_shown slots at handles [] = handles
handles_shown slots at handles (o ∷ openings) = handles_shown slots (at + 1) (map.insert handles o.asked (open_shown slots o.directory at)) openings

-- what slots and openings show
abbrev pub shown : List (Place × Slot) → List Opening → NamesShown
shown slots openings = record { names = names_shown slots; handles = handles_shown slots 0 map.empty openings }

-- a stamp is no later than so many openings
abbrev pub IsStampWithin : ℕ → Option Slot → Type 0
IsStampWithin n None = Unit {0}
IsStampWithin n (Some (There file born)) = born ≤ n
IsStampWithin n (Some (Gone at)) = at ≤ n

-- and so is the stamp of each place
abbrev pub AreStampsWithin : ℕ → List (Place × Slot) → Type 0
AreStampsWithin n slots = (place : state.Place) → IsStampWithin n (slot_at slots place)
