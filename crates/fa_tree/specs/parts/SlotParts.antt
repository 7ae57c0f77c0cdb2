-- The slots of places, as the table of names keeps them.
use Rattle.std.specs.Prelude.{◌≡◌, cond, ℕ, Bool, List, [], ◌∷◌, Option, Some, None}
use Rattle.std.specs.FinMap as map
use Rattle.std.specs.FinMap.{FinMap}
use Rattle.std.specs.Map.{lookup}
use Rattle.std.specs.Option.{option_and_then}
use Rattle.std.specs.Ordering.{eq_by_cmp}
use Rattle.std.specs.declared.cmp.Ordering.{Ordering}
use Rattle.std.specs.declared.cmp.Ordering.TheVariants.{Less}
use Rattle.fa_tree.specs.declared.id.FileId.{FileId}
use Rattle.fa_tree.specs.State as state
use Rattle.fa_tree.specs.State.{place_cmp}
use Rattle.fa_tree.specs.declared.slots.Place.{Place}
use Rattle.fa_tree.specs.declared.slots.Slot.{Slot}
use Rattle.fa_tree.specs.declared.slots.Slot.TheVariants.{There, Gone}

-- the place of a key
abbrev pub place_of : Place → state.Place
place_of key = (key.directory, key.name.items)

-- whether a key is that of a place
abbrev pub is_at : state.Place → Place → Bool
is_at place key = eq_by_cmp place_cmp place (place_of key)

-- the slot of a place
abbrev pub slot_at : List (Place × Slot) → state.Place → Option Slot
slot_at slots place = lookup (is_at place) slots

-- the slot of one place is changed, and that of each other place stays
abbrev pub IsChangedAt : state.Place → (Option Slot → Option Slot) → (old new : List (Place × Slot)) → Type 0
IsChangedAt place change old new = (q : state.Place) → slot_at new q ≡ cond (eq_by_cmp place_cmp q place) (change (slot_at old q)) (slot_at old q)

-- each place has the same slot in both
abbrev pub HaveSameSlots : (new old : List (Place × Slot)) → Type 0
HaveSameSlots new old = (q : state.Place) → slot_at new q ≡ slot_at old q

-- a slot whose name goes: one that has none stays
abbrev pub gone_at : ℕ → Option Slot → Option Slot
gone_at at (Some (There file born)) = Some (Gone at)
gone_at at (Some (Gone before)) = Some (Gone before)
gone_at at None = None

-- the file of a slot, if it has a name
abbrev pub file_in : Slot → Option FileId
file_in (There file born) = Some file
file_in (Gone at) = None

-- each place that has a slot has its name
abbrev pub AreAllThere : List (Place × Slot) → Type 0
AreAllThere slots = (place : state.Place) → option_and_then file_in (slot_at slots place) ≡ None → slot_at slots place ≡ None

-- the key with the value, or without one
abbrev pub put_or_not : {K X : Type 0} {R : K → K → Ordering} → FinMap R X → K → Option X → FinMap R X
put_or_not m k None = map.remove m k
put_or_not m k (Some x) = map.insert m k x

-- the names that there are: of two slots of one place the first counts
abbrev pub names_shown : List (Place × Slot) → FinMap place_cmp FileId
names_shown [] = map.empty
names_shown (e ∷ slots) = put_or_not (names_shown slots) (place_of e.0) (file_in e.1)

-- a place comes before another, if there is another
abbrev pub IsBefore : Place → Option Place → Type 0
IsBefore key None = Unit {0}
IsBefore key (Some other) = place_cmp (place_of key) (place_of other) ≡ Less
