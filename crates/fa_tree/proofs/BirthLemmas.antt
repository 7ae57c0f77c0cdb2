-- Names that came into a directory after it was opened: what is known of each opening stays as names come and go.
use Rattle.std.proofs.Common.{◌≡◌, ℕ, ◌<◌, ◌≤◌, Bool, true, false, cond, List, [], ◌∷◌, ◌++◌, length, take, get_or, Option, None, Some, Result, Ok, Err, refl, sym, ap, subst, ◌∙◌, inl, inr, arith}
use Rattle.std.specs.Prelude.{All, Vec, nat_lt, slice_get, option_map, OnOk, OnErr}
use Rattle.std.specs.Option.{option_and_then}
use Rattle.std.specs.Ordering.{eq_by_cmp}
use Rattle.std.specs.declared.alloc.Global.{Global}
use Rattle.std.proofs.lemmas.Bool.{cases_lt}
use Rattle.std.proofs.lemmas.Bool.Decides.{nat_tests}
use Rattle.std.proofs.lemmas.Cmp.{eq_by_cmp_equiv}
use Rattle.std.proofs.lemmas.List.{get_or-take, length-take}
use Rattle.std.proofs.lemmas.Option.{slice_get_within, slice_get-get_or}
use Rattle.fa_capture.proofs.CallerLemmas.{get_back, get_cases}
use Rattle.fa_tree.specs.declared.id.FileId.{FileId}
use Rattle.fa_tree.specs.declared.open.Opening.{Opening}
use Rattle.fa_tree.specs.declared.slots.Place.{Place}
use Rattle.fa_tree.specs.declared.slots.Slot.{Slot}
use Rattle.fa_tree.specs.declared.slots.Slot.TheVariants.{There, Gone}
use Rattle.fa_tree.specs.State as state
use Rattle.fa_tree.specs.State.{file_eq, place_cmp}
use Rattle.fa_tree.specs.parts.BirthParts.{HasNotStayed, places_of, NoneStayedBehind, AreOldPlaces, AreSamePlaces, ArePlacesKept}
use Rattle.fa_tree.specs.parts.MemberParts.{members_of}
use Rattle.fa_tree.specs.parts.NameViews.{has_stayed, AreStampsWithin}
use Rattle.fa_tree.specs.parts.PlaceLaws.{place_cmp_total}
use Rattle.fa_tree.specs.parts.SlotParts.{slot_at, gone_at, IsChangedAt, HaveSameSlots}
use Rattle.fa_tree.proofs.ViewLemmas.{within_put}

-- ---- slots of names that came later

-- a file whose name came since has not stayed
pub born_later : (at born : ℕ) (file : FileId) → at < born → HasNotStayed at (Some (There file born))
born_later at born file later = by (nat_lt at born) (grind (arith, nat_tests))
  where
    by : (b : Bool) → b ≡ true → cond b None (Some file) ≡ None
    by true is = refl
    by false is = absurd cc

-- nor has it where the name is put again,
pub put_again : (at born : ℕ) (file : FileId) → at < born → (slot : Option Slot) → HasNotStayed at (option_map (λ _. There file born) slot)
put_again at born file later None = refl
put_again at born file later (Some slot) = born_later at born file later

-- or went
pub gone_since : (at now : ℕ) (slot : Option Slot) → HasNotStayed at (gone_at now slot)
gone_since at now None = refl
gone_since at now (Some (There file born)) = refl
gone_since at now (Some (Gone before)) = refl

-- ---- what is known of openings

-- before the first
pub none_opened : (slots : List (Place × Slot)) (table : List (FileId × Vec ℕ Global)) → AreOldPlaces slots table []
none_opened slots table at o is = absurd cc

-- behind all places of a directory there is none
pub whole_later : (slots : List (Place × Slot)) (members : List ℕ) (at old_places : ℕ) → length members ≤ old_places → NoneStayedBehind slots members at old_places
whole_later slots members at old_places all k index place behind member key = let within = slice_get_within members k index member in absurd (omega (arith, within, behind, all))

-- the same slots at the same places
pub opened_alike : (old new : List (Place × Slot)) (before after : List (FileId × Vec ℕ Global)) (openings : List Opening) → AreSamePlaces old before new after → HaveSameSlots new old
    → AreOldPlaces old before openings → AreOldPlaces new after openings
opened_alike old new before after openings (places, members) same so at o is k index place behind member here =
    ap (option_and_then (has_stayed at)) (same place)
    ∙ so at o is k index place behind (sym (ap (λ xs. slice_get xs k) (members o.directory)) ∙ member) (sym (ap (λ xs. slice_get xs index) places) ∙ here)

-- One slot that is changed, so that its file has stayed since no opening, while the places are kept, or one comes.
module _ (old new : List (Place × Slot)) (before after : List (FileId × Vec ℕ Global)) (place : state.Place) (change : Option Slot → Option Slot)
    (kept : ArePlacesKept place old before new after) (changed : IsChangedAt place change old new) where
  -- a place that is another was there, at the same place among those of its directory
  was_there : (other : state.Place) (directory : FileId) (k index : ℕ) → eq_by_cmp place_cmp other place ≡ false → slice_get (members_of after directory) k ≡ Some index
      → slice_get (places_of new) index ≡ Some other → (slice_get (members_of before directory) k ≡ Some index) × (slice_get (places_of old) index ≡ Some other)
  was_there other directory k index apart member here = elim kept [
    | inl same ↦ (sym (ap (λ xs. slice_get xs k) (same.1 directory)) ∙ member, sym (ap (λ xs. slice_get xs index) same.0) ∙ here)
    | inr more ↦
        let behind : slice_get (places_of old ++ place ∷ []) index ≡ Some other = sym (ap (λ xs. slice_get xs index) more.0) ∙ here in
        elim (get_cases (places_of old) place index other behind) [
          | inl early ↦ (
            by (file_eq directory place.0) (length (places_of old)) early (sym (ap (λ xs. slice_get xs k) (more.1 directory)) ∙ member),
            get_back (places_of old) (place ∷ []) index other early behind,
          )
          | inr last ↦ absurd (
              let tie : eq_by_cmp place_cmp other place ≡ true = ap (λ q. eq_by_cmp place_cmp q place) last.1 ∙ (eq_by_cmp_equiv place_cmp_total).refl place in
              let clash : true ≡ false = sym tie ∙ apart in
              cc)
        ]
  ]
    where
      by : (b : Bool) (n : ℕ) → index < n → slice_get (cond b (members_of before directory ++ n ∷ []) (members_of before directory)) k ≡ Some index → slice_get (members_of before directory) k ≡ Some index
      by true n early is = elim (get_cases (members_of before directory) n k index is) [
        | inl inside ↦ get_back (members_of before directory) (n ∷ []) k index inside is
        | inr last ↦ absurd (let same = last.1 in omega (arith, same, early))
      ]
      by false n early is = is

  pub opened_kept : (openings : List Opening) → ((at : ℕ) → at < length openings → (slot : Option Slot) → HasNotStayed at (change slot)) → AreOldPlaces old before openings
      → AreOldPlaces new after openings
  opened_kept openings later so at o is k index other behind member here =
      ap (option_and_then (has_stayed at)) (changed other) ∙ by (eq_by_cmp place_cmp other place) refl
    where
      by : (b : Bool) → eq_by_cmp place_cmp other place ≡ b → HasNotStayed at (cond b (change (slot_at old other)) (slot_at old other))
      by true same = later at (slice_get_within openings at o is) (slot_at old other)
      by false apart =
          let was = was_there other o.directory k index apart member here in
          so at o is k index other behind was.0 was.1

-- ---- a walk over the oldest

-- what holds of the first, and of those behind them, holds of all
pub all_from_first : (P : ℕ → Type 0) (xs : List ℕ) (n : ℕ) → All P (take n xs) → ((k index : ℕ) → n ≤ k → slice_get xs k ≡ Some index → P index) → All P xs
all_from_first P xs n first rest k d within = elim (cases_lt k n) [
  | inl early ↦ subst P (get_or-take n xs k d early) (first k d (let long = length-take n xs in omega (arith, long, early, within)))
  | inr late ↦ rest k (get_or xs k d) late (slice_get-get_or xs k d within)
]

-- ---- a name is put

-- stamps count openings that there are, and behind the places that an opening noted none has stayed
abbrev pub AreKnownSince : List (Place × Slot) → List (FileId × Vec ℕ Global) → List Opening → Type 0
AreKnownSince slots table openings = AreStampsWithin (length openings) slots × AreOldPlaces slots table openings

-- that stays so, whether the name is put or memory was refused
pub births_put : {A E : Type 0} (r : Result A E) (old new : List (Place × Slot)) (before after : List (FileId × Vec ℕ Global)) (place : state.Place) (file : FileId) (born : ℕ) (openings : List Opening)
    → born ≡ length openings → OnOk r (IsChangedAt place (λ _. Some (There file born)) old new) → OnOk r (ArePlacesKept place old before new after)
    → OnErr r (AreSamePlaces old before new after) → OnErr r (new ≡ old) → AreKnownSince old before openings → AreKnownSince new after openings
births_put (Ok v) old new before after place file born openings count wrote kept same stays known = (
  within_put _ old new place file born count wrote known.0,
  opened_kept old new before after place (λ _. Some (There file born)) kept wrote openings (λ at less slot. born_later at born file (omega (arith, less, count))) known.1,
)
births_put (Err e) old new before after place file born openings count wrote kept same stays known = (
  subst (AreStampsWithin (length openings)) (sym stays) known.0,
  opened_alike old new before after openings same (λ q. ap (λ slots. slot_at slots q) stays) known.1,
)
