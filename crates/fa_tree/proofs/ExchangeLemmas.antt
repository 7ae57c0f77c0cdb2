-- Two names whose files are exchanged.
use Rattle.std.proofs.Common.{◌≡◌, ◌≢◌, ℕ, Bool, true, false, if◌then◌else◌, arith, List, [], ◌∷◌, length, Some, None, refl, sym, ap, ◌∙◌}
use Rattle.std.specs.Option.{option_map, option_and_then}
use Rattle.std.specs.FinMap as map
use Rattle.std.specs.FinMap.{FinMap}
use Rattle.fa_tree.specs.declared.id.FileId.{FileId}
use Rattle.fa_tree.specs.State as state
use Rattle.fa_tree.specs.State.{place_cmp, file_eq}
use Rattle.fa_tree.specs.Edits.{names_after}
use Rattle.fa_tree.specs.Edits.Edit.{Added, Removed}
use Rattle.fa_tree.specs.Renaming.{exchanged}
use Rattle.fa_tree.specs.declared.open.Opening.{Opening}
use Rattle.fa_tree.specs.declared.slots.Place.{Place}
use Rattle.fa_tree.specs.declared.slots.Slot.{Slot}
use Rattle.fa_tree.specs.declared.slots.Slot.TheVariants.{There}
use Rattle.fa_tree.specs.parts.SlotParts.{slot_at, file_in, names_shown, IsChangedAt}
use Rattle.fa_tree.specs.parts.NameParts.{edited}
use Rattle.fa_tree.specs.parts.NameViews.{shown, AreStampsWithin}
use Rattle.fa_tree.proofs.NameLemmas.{get-names_shown}
use Rattle.fa_tree.proofs.SlotLemmas.{replaced_at}
use Rattle.fa_tree.proofs.ViewLemmas.{names_put, shown_put, within_put}
use Rattle.fa_tree.specs.declared.files.Counts.{Counts}
use Rattle.fa_tree.specs.parts.CountParts.{AreCounted}
use Rattle.fa_tree.proofs.CountLemmas.{other_there, put_counts}

-- the names after a name is another file's
abbrev pub after_put : FinMap place_cmp FileId → state.Place → FileId → FinMap place_cmp FileId
after_put names place file = map.insert (map.remove names place) place file

module _ (names : FinMap place_cmp FileId) (one other : state.Place) (file of : FileId) (there : map.get names one ≡ Some file) (also : map.get names other ≡ Some of) where
  -- the second name is there after the first is put
  pub also_there : map.get (after_put names one of) other ≡ Some of
  also_there = other_there names one other of of (λ same. refl) also

-- two names that get each other's file: what is counted stays
exchanged_counted : (names : FinMap place_cmp FileId) (counts : FileId → Counts) (one other : state.Place) (file of : FileId) → map.get names one ≡ Some file → map.get names other ≡ Some of
    → AreCounted names counts → AreCounted (after_put (after_put names one of) other file) counts
exchanged_counted names counts one other file of there also counted = record {
  links = λ x.
      (let first = put_counts (λ entry. file_eq entry.1 x) names one file of there in
      let second = put_counts (λ entry. file_eq entry.1 x) (after_put names one of) other of file (also_there names one other file of there also) in
      let is = counted.links x in
      omega (arith, first, second, is));
  inside = λ x.
      (let first = put_counts (λ entry. file_eq entry.0.0 x) names one file of there in
      let second = put_counts (λ entry. file_eq entry.0.0 x) (after_put names one of) other of file (also_there names one other file of there also) in
      let is = counted.inside x in
      omega (arith, first, second, is));
}

pub exchange_counted : (names : FinMap place_cmp FileId) (counts : FileId → Counts) (directory : FileId) (name : List ℕ) (to : FileId) (renamed : List ℕ) (file of : FileId)
    → map.get names (directory, name) ≡ Some file → map.get names (to, renamed) ≡ Some of → AreCounted names counts
    → AreCounted (names_after (exchanged directory name to renamed file of) names) counts
exchange_counted names counts directory name to renamed file of there also counted = by (file_eq of file)
  where
    by : (b : Bool) → AreCounted (names_after (if b then [] else Removed directory name ∷ Added directory name of ∷ Removed to renamed ∷ Added to renamed file ∷ []) names) counts
    by true = counted
    by false = exchanged_counted names counts (directory, name) (to, renamed) file of there also counted

-- a place that has a name has a slot
has_slot : (slots : List (Place × Slot)) (place : state.Place) (file : FileId) → map.get (names_shown slots) place ≡ Some file → slot_at slots place ≢ None
has_slot slots place file there = λ none.
    let clash : Some file ≡ None = sym there ∙ get-names_shown slots place ∙ ap (option_and_then file_in) none in
    absurd cc

module _ (old between new : List (Place × Slot)) (directory : FileId) (name : List ℕ) (to : FileId) (renamed : List ℕ) (file of : FileId) (born : ℕ)
    (there : map.get (names_shown old) (directory, name) ≡ Some file) (also : map.get (names_shown old) (to, renamed) ≡ Some of)
    (first : IsChangedAt (directory, name) (option_map (λ _. There of born)) old between)
    (second : IsChangedAt (to, renamed) (option_map (λ _. There file born)) between new) where
  wrote : IsChangedAt (directory, name) (λ _. Some (There of born)) old between
  wrote = replaced_at old between (directory, name) (There of born) (has_slot old (directory, name) file there) first

  between_names : names_shown between ≡ after_put (names_shown old) (directory, name) of
  between_names = names_put old between directory name of born wrote

  wrote_again : IsChangedAt (to, renamed) (λ _. Some (There file born)) between new
  wrote_again =
      replaced_at between new (to, renamed) (There file born)
      (has_slot between (to, renamed) of (ap (λ names. map.get names (to, renamed)) between_names ∙ also_there (names_shown old) (directory, name) (to, renamed) file of there also))
      second

  pub shown_exchanged : (openings : List Opening) → length openings ≡ born
      → shown new openings ≡ edited (Removed to renamed ∷ Added to renamed file ∷ []) (edited (Removed directory name ∷ Added directory name of ∷ []) (shown old openings))
  shown_exchanged openings count =
      shown_put between new to renamed file born wrote_again openings count
      ∙ ap (edited (Removed to renamed ∷ Added to renamed file ∷ [])) (shown_put old between directory name of born wrote openings count)

  pub within_exchanged : (n : ℕ) → born ≡ n → AreStampsWithin n old → AreStampsWithin n new
  within_exchanged n is within = within_put n between new (to, renamed) file born is wrote_again (within_put n old between (directory, name) of born is wrote within)
