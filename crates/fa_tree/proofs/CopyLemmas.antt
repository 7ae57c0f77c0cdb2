-- What copies of tables have: the same as the tables.
use Rattle.std.proofs.Common.{◌≡◌, ℕ, zero, suc, Bool, true, false, cond, List, [], ◌∷◌, Option, None, Some, refl, sym, ap, subst, ◌∙◌}
use Rattle.std.specs.Prelude.{nat_eq, slice_get, Vec, vec_len}
use Rattle.std.specs.List.{AllZip, each_same, list_any}
use Rattle.std.specs.Map.{keys_of, lookup}
use Rattle.std.specs.Option.{option_and_then, option_map_or, option_or}
use Rattle.std.specs.Ordering.{eq_by_cmp}
use Rattle.std.specs.Cmp.Lexicographic.{nat_list_cmp_total}
use Rattle.std.specs.FinMap as map
use Rattle.std.specs.FinMap.{FinMap, same_map}
use Rattle.std.specs.FinSet.{same_set}
use Rattle.std.specs.declared.alloc.Global.{Global}
use Rattle.std.proofs.lemmas.List.Elements.{same_from_all_zip}
use Rattle.fa_tree.specs.declared.id.FileId.{FileId}
use Rattle.fa_tree.specs.contracts.id.FileIdPartialEq.TheImpl as derived
use Rattle.fa_tree.specs.State.{place_cmp}
use Rattle.fa_tree.specs.declared.open.Opening.{Opening}
use Rattle.fa_tree.specs.declared.slots.Place.{Place}
use Rattle.fa_tree.specs.declared.slots.Slot.{Slot}
use Rattle.fa_tree.specs.parts.PlaceLaws.{place_cmp_total, places_apart, names_apart}
use Rattle.fa_tree.specs.parts.BirthParts.{places_of}
use Rattle.fa_tree.specs.parts.SlotParts.{place_of, file_in, names_shown, HaveSameSlots}
use Rattle.fa_tree.specs.parts.MemberParts.{members_of, AreMembers}
use Rattle.fa_tree.specs.parts.NameViews.{was_since, has_stayed, since_shown, stayed_shown, open_shown, handles_shown, shown}
use Rattle.fa_tree.proofs.NameLemmas.{get-names_shown, get-stayed_shown, contains-since_shown}
use Rattle.fa_tree.proofs.ViewLemmas.{handles_changed}

-- ---- the indexes of places

-- the indexes of a directory, in a list of their own
pub members_alike : (es fs : List (FileId × Vec ℕ Global))
    → AllZip (λ p q. (q.0 ≡ p.0) × (AllZip (λ x y. y ≡ x) p.1.items q.1.items × (vec_len q.1 ≡ vec_len p.1))) es fs
    → (of : FileId) → members_of fs of ≡ members_of es of
members_alike [] [] alike of = refl
members_alike [] (f ∷ fs) alike of = absurd alike
members_alike (e ∷ es) [] alike of = absurd alike
members_alike (e ∷ es) (f ∷ fs) alike of =
    ap (λ k. option_map_or (λ v. v.items) (cond (derived.eq-value.it of k) (Some f.1) (lookup (derived.eq-value.it of) fs)) []) alike.0.0
    ∙ either (derived.eq-value.it of e.0) _ _ (members_alike es fs alike.1 of)
  where
    either : (b : Bool) (x y : Option (Vec ℕ Global)) → option_map_or (λ v. v.items) y [] ≡ option_map_or (λ v. v.items) x []
        → option_map_or (λ v. v.items) (cond b (Some f.1) y) [] ≡ option_map_or (λ v. v.items) (cond b (Some e.1) x) []
    either true x y same = each_same e.1.items f.1.items alike.0.1.0
    either false x y same = same

-- ---- slots

-- a table whose places have the same directories and names, and the same slots
abbrev pub AreAlike : (old new : List (Place × Slot)) → Type 0
AreAlike = AllZip (λ p q. (place_of q.0 ≡ place_of p.0) × (q.1 ≡ p.1))

pub slots_alike : (es fs : List (Place × Slot)) → AreAlike es fs → HaveSameSlots fs es
slots_alike [] [] alike q = refl
slots_alike [] (f ∷ fs) alike q = absurd alike
slots_alike (e ∷ es) [] alike q = absurd alike
slots_alike (e ∷ es) (f ∷ fs) alike q = λ i. cond (eq_by_cmp place_cmp q (alike.0.0 i)) (Some (alike.0.1 i)) (slots_alike es fs alike.1 q i)

-- the same places, in the same order
pub places_copied : (es fs : List (Place × Slot)) → AreAlike es fs → places_of fs ≡ places_of es
places_copied [] [] alike = refl
places_copied [] (f ∷ fs) alike = absurd alike
places_copied (e ∷ es) [] alike = absurd alike
places_copied (e ∷ es) (f ∷ fs) alike = λ i. alike.0.0 i ∷ places_copied es fs alike.1 i

-- the place at an index
place_alike : (es fs : List (Place × Slot)) → AreAlike es fs → (index : ℕ) (place : Place) → slice_get (keys_of fs) index ≡ Some place
    → (old : Place) × (slice_get (keys_of es) index ≡ Some old) × (place_of place ≡ place_of old)
place_alike [] [] alike index place there = absurd (let clash : None ≡ Some place = there in cc)
place_alike [] (f ∷ fs) alike index place there = absurd alike
place_alike (e ∷ es) [] alike index place there = absurd alike
place_alike (e ∷ es) (f ∷ fs) alike zero place there =
    let same : f.0 ≡ place = cc in
    (e.0, refl, ap place_of (sym same) ∙ alike.0.0)
place_alike (e ∷ es) (f ∷ fs) alike (suc index) place there = place_alike es fs alike.1 index place there

-- the index of each place is one of its directory
pub members_copied : (es fs : List (Place × Slot)) (old new : List (FileId × Vec ℕ Global)) → AreAlike es fs
    → ((of : FileId) → members_of new of ≡ members_of old of) → AreMembers (keys_of es) old → AreMembers (keys_of fs) new
members_copied es fs old new alike same members index place there =
    let at = place_alike es fs alike index place there in
    let directory = ap (λ p. p.0) at.2 in
    ap (list_any (nat_eq index)) (same place.directory ∙ ap (members_of old) directory) ∙ members index at.0 at.1

-- ---- what slots show

module _ (new old : List (Place × Slot)) (same : HaveSameSlots new old) where
  pub names_alike : names_shown new ≡ names_shown old
  names_alike = same_map place_cmp_total places_apart _ _ (λ q. get-names_shown new q ∙ ap (option_and_then file_in) (same q) ∙ sym (get-names_shown old q))

  open_alike : (directory : FileId) (at : ℕ) → open_shown new directory at ≡ open_shown old directory at
  open_alike directory at = λ i. record { directory = directory; since = same_since i; stayed = same_stayed i }
    where
      same_since : since_shown directory at new ≡ since_shown directory at old
      same_since = same_set nat_list_cmp_total names_apart _ _ (λ name.
          contains-since_shown directory at new name
          ∙ ap (λ slot. option_map_or (was_since at) slot false) (same (directory, name))
          ∙ sym (contains-since_shown directory at old name))

      same_stayed : stayed_shown directory at new ≡ stayed_shown directory at old
      same_stayed = same_map nat_list_cmp_total names_apart _ _ (λ name.
          get-stayed_shown directory at new name
          ∙ ap (option_and_then (has_stayed at)) (same (directory, name))
          ∙ sym (get-stayed_shown directory at old name))

  -- the same slots show the same names and open directories
  pub shown_alike : (openings : List Opening) → shown new openings ≡ shown old openings
  shown_alike openings = λ i. record { names = names_alike i; handles = same_handles i }
    where
      same_handles : handles_shown new 0 map.empty openings ≡ handles_shown old 0 map.empty openings
      same_handles =
          handles_changed old new openings (λ h. h) (λ directory at less. open_alike directory at)
          ∙ sym (handles_changed old old openings (λ h. h) (λ directory at less. refl))
