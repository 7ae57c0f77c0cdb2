-- What places have after a write at one.
use Rattle.std.proofs.Common.{◌≡◌, ◌≢◌, ℕ, Bool, true, false, cond, List, Option, None, Some, refl, sym, ap, subst, ◌∙◌}
use Rattle.std.specs.Map.{lookup, KeepsOthers}
use Rattle.std.specs.Option.{option_map, option_and_then}
use Rattle.std.specs.Ordering.{eq_by_cmp}
use Rattle.fa_capture.proofs.CallerLemmas.{found_alike}
use Rattle.fa_tree.specs.declared.id.FileId.{FileId}
use Rattle.fa_tree.specs.State as state
use Rattle.fa_tree.specs.State.{place_cmp}
use Rattle.fa_tree.specs.declared.slots.Place.{Place}
use Rattle.fa_tree.specs.declared.slots.Slot.{Slot}
use Rattle.fa_tree.specs.declared.slots.Slot.TheVariants.{There}
use Rattle.fa_tree.specs.parts.PlaceLaws.{same_place, place_equiv, place_test}
use Rattle.fa_tree.specs.parts.SlotParts.{place_of, is_at, slot_at, file_in, IsChangedAt, AreAllThere}

-- a key that one place has, another has not
apart : (q place : state.Place) (key : Place) → eq_by_cmp place_cmp q place ≡ false → is_at place key ≡ true → is_at q key ≡ false
apart q place key other own = ap (eq_by_cmp place_cmp q) (sym (same_place place (place_of key) own)) ∙ other

module _ (eq : Place → Place → Bool) (same : (x y : Place) → eq x y ≡ eq_by_cmp place_cmp (place_of x) (place_of y))
    (place : state.Place) (test : Place → Bool) (own : (k : Place) → test k ≡ is_at place k) (old new : List (Place × Slot)) (w : Option Slot) where
  -- a place has what was written at it, and another what it had
  pub after_write : lookup test new ≡ w → KeepsOthers eq test old new → (q : state.Place) → slot_at new q ≡ cond (eq_by_cmp place_cmp q place) w (slot_at old q)
  unfolding KeepsOthers
  after_write wrote keeps q =
      elim (eq_by_cmp place_cmp q place) as (λ b. eq_by_cmp place_cmp q place ≡ b → slot_at new q ≡ cond b w (slot_at old q)) [
        | true ↦ λ is. ap (slot_at new) (same_place q place is) ∙ sym (found_alike test (is_at place) new own) ∙ wrote
        | false ↦ λ is. keeps (is_at q) (λ x y one. place_equiv.congr q (place_of x) (place_of y) one ∙ sym (same x y))
            (λ k one. apart q place k is (sym (own k) ∙ one))
      ] refl

-- what a change at one place makes of each, where it is a change of what the place had
pub changed_at : (slots : List (Place × Slot)) (place q : state.Place) (change : Option Slot → Option Slot) (w : Option Slot) → w ≡ change (slot_at slots place)
    → cond (eq_by_cmp place_cmp q place) w (slot_at slots q) ≡ cond (eq_by_cmp place_cmp q place) (change (slot_at slots q)) (slot_at slots q)
changed_at slots place q change w is =
    elim (eq_by_cmp place_cmp q place) as (λ b. eq_by_cmp place_cmp q place ≡ b → cond b w (slot_at slots q) ≡ cond b (change (slot_at slots q)) (slot_at slots q)) [
      | true ↦ λ test. is ∙ ap (λ p. change (slot_at slots p)) (sym (same_place q place test))
      | false ↦ λ test. refl
    ] refl

-- a change of one place that leaves what the place had
pub unchanged_at : (slots : List (Place × Slot)) (place q : state.Place) (change : Option Slot → Option Slot) → slot_at slots place ≡ change (slot_at slots place)
    → slot_at slots q ≡ cond (eq_by_cmp place_cmp q place) (change (slot_at slots q)) (slot_at slots q)
unchanged_at slots place q change same =
    elim (eq_by_cmp place_cmp q place) as (λ b. eq_by_cmp place_cmp q place ≡ b → slot_at slots q ≡ cond b (change (slot_at slots q)) (slot_at slots q)) [
      | true ↦ λ test. subst (λ p. slot_at slots p ≡ change (slot_at slots p)) (sym (same_place q place test)) same
      | false ↦ λ test. refl
    ] refl

-- what is put in the place of what a place has is put there
pub replaced_at : (old new : List (Place × Slot)) (place : state.Place) (slot : Slot) → slot_at old place ≢ None
    → IsChangedAt place (option_map (λ _. slot)) old new → IsChangedAt place (λ _. Some slot) old new
replaced_at old new place slot there wrote q = wrote q ∙ by (eq_by_cmp place_cmp q place) refl
  where
    is_there : (x : Option Slot) → x ≢ None → option_map (λ _. slot) x ≡ Some slot
    is_there None some = absurd (some refl)
    is_there (Some old) some = refl

    by : (b : Bool) → eq_by_cmp place_cmp q place ≡ b → cond b (option_map (λ _. slot) (slot_at old q)) (slot_at old q) ≡ cond b (Some slot) (slot_at old q)
    by true test = is_there (slot_at old q) (λ none. there (ap (slot_at old) (sym (same_place q place test)) ∙ none))
    by false test = refl

-- places that all have their names still have them after a name is put
pub all_there_put : (old new : List (Place × Slot)) (place : state.Place) (file : FileId) (born : ℕ)
    → IsChangedAt place (λ _. Some (There file born)) old new → AreAllThere old → AreAllThere new
all_there_put old new place file born wrote there q none = by (eq_by_cmp place_cmp q place) (wrote q)
  where
    by : (b : Bool) → slot_at new q ≡ cond b (Some (There file born)) (slot_at old q) → slot_at new q ≡ None
    by true is = absurd (let clash : Some file ≡ None = sym (ap (option_and_then file_in) is) ∙ none in cc)
    by false is = is ∙ there q (sym (ap (option_and_then file_in) is) ∙ none)

-- keys are equal where their places are
pub keys_same : (x y : Place) → Rattle.fa_tree.specs.contracts.slots.PlacePartialEq.TheImpl.eq-value.it x y ≡ eq_by_cmp place_cmp (place_of x) (place_of y)
keys_same x y = sym (place_test (place_of x) (place_of y))
