-- What a tree tells of itself: the least place of a file, the bytes of a file, and the rule of a call.
use Rattle.std.proofs.Common.{◌≡◌, ℕ, ℤ, ◌+◌, ◌<◌, Bool, false, List, length, take, get_or, slice_get, Option, None, Some, inl, inr, refl, sym, ap, subst, ◌∙◌, arith}
use Rattle.std.specs.Prelude.{◌≢◌, ◌↔◌, ◌⊎◌, Vec, IsTrue, IfSome, IfNone}
use Rattle.std.specs.Borrow.{Bor}
use Rattle.std.specs.Option.{option_map, option_and_then}
use Rattle.std.specs.Ordering.{is_gt, ordering_reverse}
use Rattle.std.specs.declared.cmp.Ordering.{Ordering}
use Rattle.std.specs.declared.cmp.Ordering.TheVariants.{Less, Equal, Greater}
use Rattle.std.specs.declared.alloc.Global.{Global}
use Rattle.std.specs.Map.{keys_of, lookup}
use Rattle.std.specs.FinMap as map
use Rattle.std.proofs.lemmas.Bool.{cases_lt}
use Rattle.std.proofs.lemmas.Cmp.{upto, tied_itself}
use Rattle.std.proofs.lemmas.List.{get_or_default}
use Rattle.std.proofs.lemmas.Option.{slice_get-get_or, same_Some}
use Rattle.fa_capture.proofs.CallerLemmas.{found_alike}
use Rattle.fa_ledger.specs.Calls.{PlainCall}
use Rattle.fa_ledger.specs.Operations.{PlainOperation}
use Rattle.fa_tree.specs.declared.id.FileId.{FileId}
use Rattle.fa_tree.specs.contracts.slots.PlacePartialEq.TheImpl as same_key
use Rattle.fa_tree.specs.declared.slots.Place.{Place}
use Rattle.fa_tree.specs.declared.slots.Slot.{Slot}
use Rattle.fa_tree.specs.State as state
use Rattle.fa_tree.specs.State.{TreeState, place_cmp}
use Rattle.fa_tree.specs.Resolved.{Resolved, resolved}
use Rattle.fa_tree.specs.Rules.{HasCause}
use Rattle.fa_tree.specs.Operations.{rule}
use Rattle.fa_tree.specs.Telling.{OfRule}
use Rattle.fa_tree.specs.parts.BirthParts.{NoneStayedBehind}
use Rattle.fa_tree.specs.parts.MemberParts.{members_of, AreMembers}
use Rattle.fa_tree.specs.parts.NameViews.{stayed_shown}
use Rattle.fa_tree.specs.parts.PlaceLaws.{place_cmp_total, same_place}
use Rattle.fa_tree.specs.parts.SlotParts.{place_of, is_at, slot_at, file_in, names_shown, IsBefore}
use Rattle.fa_tree.proofs.NameLemmas.{get-names_shown}
use Rattle.fa_store.proofs.CallerLemmas.{found_among}
use Rattle.fa_tree.proofs.SlotLemmas.{keys_same}
use Rattle.fa_tree.proofs.StayedLemmas.{PassesAt, walked_oldest}

-- ---- the least place

not_greater : (r : Ordering) → is_gt r ≡ false → r ≢ Greater
not_greater Less test is = absurd cc
not_greater Equal test is = absurd cc
not_greater Greater test is = absurd cc

reverse_test : (r : Ordering) → r ≢ Less → is_gt (ordering_reverse r) ≡ false
reverse_test Less other = absurd (other refl)
reverse_test Equal other = refl
reverse_test Greater other = refl

less_test : (r : Ordering) → r ≡ Less → is_gt r ≡ false
less_test r is = ap is_gt is

module _ (slots : List (Place × Slot)) (file : FileId) where
  -- this place has a name for the file, and none of the entries before an index that have one comes before it
  pub record IsLeastTo (index : ℕ) (place : Place) : Type 0 where
    pub there : map.get (names_shown slots) (place_of place) ≡ Some file
    pub least : (k : ℕ) (e : Place × Slot) → k < index → slice_get slots k ≡ Some e → file_in e.1 ≡ Some file → is_gt (place_cmp (place_of place) (place_of e.0)) ≡ false

  -- the least place of the entries before an index, if one has a name for the file
  abbrev pub LeastTo : ℕ → Option Place → Type 0
  LeastTo index None = (k : ℕ) (e : Place × Slot) → k < index → slice_get slots k ≡ Some e → file_in e.1 ≡ Some file → ⊥
  LeastTo index (Some place) = IsLeastTo index place

  last_or_before : (k index : ℕ) → k < index + 1 → (k < index) ⊎ (k ≡ index)
  last_or_before k index within = elim (cases_lt k index) [
    | inl before ↦ inl before
    | inr behind ↦ inr (omega arith)
  ]

  -- where the entry at the index is not for the file, it is still the least
  pub passed : (index : ℕ) (least : Option Place) → ((e : Place × Slot) → slice_get slots index ≡ Some e → file_in e.1 ≡ Some file → ⊥) → LeastTo index least → LeastTo (index + 1) least
  passed index None other none = λ k e within at of. by k e at of (last_or_before k index within)
    where
      by : (k : ℕ) (e : Place × Slot) → slice_get slots k ≡ Some e → file_in e.1 ≡ Some file → (k < index) ⊎ (k ≡ index) → ⊥
      by k e at of (inl before) = none k e before at of
      by k e at of (inr here) = other e (ap (slice_get slots) (sym here) ∙ at) of
  passed index (Some place) other so_far = record { there = so_far.there; least = λ k e within at of. by k e at of (last_or_before k index within) }
    where
      by : (k : ℕ) (e : Place × Slot) → slice_get slots k ≡ Some e → file_in e.1 ≡ Some file → (k < index) ⊎ (k ≡ index) → is_gt (place_cmp (place_of place) (place_of e.0)) ≡ false
      by k e at of (inl before) = so_far.least k e before at of
      by k e at of (inr here) = absurd (other e (ap (slice_get slots) (sym here) ∙ at) of)

  pub passed_at : (index : ℕ) (least : Option Place) (place : Place) (slot : Slot) → slice_get slots index ≡ Some (place, slot)
      → (file_in slot ≡ Some file → ⊥) → LeastTo index least → LeastTo (index + 1) least
  passed_at index least place slot here other =
      passed index least (λ e at of. other (ap (λ (x : Place × Slot). file_in x.1) (same_Some (place, slot) e (sym here ∙ at)) ∙ of))

  -- the name of a slot that is found is for its file
  pub found_name : (place : Place) (slot : Slot) → lookup (same_key.eq-value.it place) slots ≡ Some slot → file_in slot ≡ Some file → map.get (names_shown slots) (place_of place) ≡ Some file
  found_name place slot found of =
      get-names_shown slots (place_of place)
      ∙ ap (option_and_then file_in) (sym (found_alike (same_key.eq-value.it place) (is_at (place_of place)) slots (keys_same place)) ∙ found)
      ∙ of

  -- where it is, and comes before the least so far, it is the least
  pub replaced : (index : ℕ) (least : Option Place) (place : Place) (slot : Slot) → slice_get slots index ≡ Some (place, slot)
      → map.get (names_shown slots) (place_of place) ≡ Some file → IsBefore place least → LeastTo index least → LeastTo (index + 1) (Some place)
  replaced index least place slot here there before so_far = record { there = there; least = λ k e within at of. by least before so_far k e at of (last_or_before k index within) }
    where
      itself : (e : Place × Slot) → slice_get slots index ≡ Some e → is_gt (place_cmp (place_of place) (place_of e.0)) ≡ false
      itself e at =
          let same : (place, slot) ≡ e = same_Some (place, slot) e (sym here ∙ at) in
          subst (λ (x : Place × Slot). is_gt (place_cmp (place_of place) (place_of x.0)) ≡ false) same (ap is_gt (tied_itself place_cmp_total (place_of place)))

      by : (least : Option Place) → IsBefore place least → LeastTo index least → (k : ℕ) (e : Place × Slot) → slice_get slots k ≡ Some e → file_in e.1 ≡ Some file → (k < index) ⊎ (k ≡ index)
          → is_gt (place_cmp (place_of place) (place_of e.0)) ≡ false
      by least before so_far k e at of (inr same) = itself e (ap (slice_get slots) (sym same) ∙ at)
      by None before so_far k e at of (inl earlier) = absurd (so_far k e earlier at of)
      by (Some other) before so_far k e at of (inl earlier) =
          upto place_cmp_total (place_of place) (place_of other) (place_of e.0) (less_test _ before) (so_far.least k e earlier at of)

  -- where it does not come before the least so far, that is still the least
  pub kept : (index : ℕ) (least : Option Place) (place : Place) (slot : Slot) → slice_get slots index ≡ Some (place, slot)
      → (IsBefore place least → ⊥) → LeastTo index least → LeastTo (index + 1) least
  kept index None place slot here behind so_far = absurd (behind tt)
  kept index (Some other) place slot here behind so_far =
      record { there = so_far.there; least = λ k e within at of. by k e at of (last_or_before k index within) }
    where
      itself : (e : Place × Slot) → slice_get slots index ≡ Some e → is_gt (place_cmp (place_of other) (place_of e.0)) ≡ false
      itself e at =
          let same : (place, slot) ≡ e = same_Some (place, slot) e (sym here ∙ at) in
          subst (λ (x : Place × Slot). is_gt (place_cmp (place_of other) (place_of x.0)) ≡ false) same
          (ap is_gt (place_cmp_total.antisymm (place_of other) (place_of place)) ∙ reverse_test (place_cmp (place_of place) (place_of other)) behind)

      by : (k : ℕ) (e : Place × Slot) → slice_get slots k ≡ Some e → file_in e.1 ≡ Some file → (k < index) ⊎ (k ≡ index) → is_gt (place_cmp (place_of other) (place_of e.0)) ≡ false
      by k e at of (inl earlier) = so_far.least k e earlier at of
      by k e at of (inr same) = itself e (ap (slice_get slots) (sym same) ∙ at)

  -- a name for the file is that of an entry
  entry_of_name : (place : state.Place) → map.get (names_shown slots) place ≡ Some file
      → (key : Place) × (slot : Slot) × (k : ℕ) × (k < length slots) × (slice_get slots k ≡ Some (key, slot)) × (place ≡ place_of key) × (file_in slot ≡ Some file)
  entry_of_name place there = by (slot_at slots place) refl (sym (get-names_shown slots place) ∙ there)
    where
      Among : Place × Slot → Type 0
      Among e = (k : ℕ) × (k < length slots) × (slice_get slots k ≡ Some e)

      by : (found : Option Slot) → slot_at slots place ≡ found → option_and_then file_in found ≡ Some file
          → (key : Place) × (slot : Slot) × (k : ℕ) × (k < length slots) × (slice_get slots k ≡ Some (key, slot)) × (place ≡ place_of key) × (file_in slot ≡ Some file)
      by None was is = absurd (let clash : None ≡ Some file = is in cc)
      by (Some slot) was is =
          let at = found_among Among (is_at place) slots (λ k d less. (k, less, slice_get-get_or slots k d less)) slot was in
          (at.0, slot, at.2.0, at.2.1, at.2.2, same_place place (place_of at.0) at.1, is)

  -- so the least of all entries is the least of all names for the file
  pub none_at_all : LeastTo (length slots) None → (place : state.Place) → map.get (names_shown slots) place ≡ Some file → ⊥
  none_at_all none place there =
      let e = entry_of_name place there in
      none e.2 (e.0, e.1) e.3 e.4 e.6

  pub least_of_all : (least : Place) → IsLeastTo (length slots) least → (other : state.Place) → map.get (names_shown slots) other ≡ Some file → place_cmp (place_of least) other ≢ Greater
  least_of_all least is other there =
      let e = entry_of_name other there in
      subst (λ q. place_cmp (place_of least) q ≢ Greater) (sym e.5) (not_greater _ (is.least e.2 (e.0, e.1) e.3 e.4 e.6))

-- ---- what was asked of a call

pub some_also : {A : Type 0} (r : Option A) (P Q : A → Type 0) → ((x : A) → P x → Q x) → IfSome r P → IfSome r Q
some_also None P Q also is = is
some_also (Some x) P Q also is = also x is

pub none_also : {A : Type 0} (r : Option A) (P Q : Type 0) → (P → Q) → IfNone r P → IfNone r Q
none_also None P Q also is = also is
none_also (Some x) P Q also is = is

module _ (t : TreeState) (call : PlainCall) (o : PlainOperation) (asks : call.operation ≡ o) (x : Resolved) (named : resolved t call ≡ Some x) (b : Bool) where
  -- what holds of the rule of its operation holds of the call's
  pub needs_so : IsTrue b ↔ (rule t.store x o).needs → OfRule t call (λ r. IsTrue b ↔ r.needs)
  needs_so told = (x, named, subst (λ (p : PlainOperation). IsTrue b ↔ (rule t.store x p).needs) (sym asks) told)

  pub cause_so : (error : ℤ) → IsTrue b ↔ HasCause (rule t.store x o) error → OfRule t call (λ r. IsTrue b ↔ HasCause r error)
  cause_so error told = (x, named, subst (λ (p : PlainOperation). IsTrue b ↔ HasCause (rule t.store x p) error) (sym asks) told)

-- ---- names that stayed

module _ (directory : FileId) (at : ℕ) (slots : List (Place × Slot)) (No : List ℕ → Type 0) where
  -- where each of the oldest places of the directory passes, it holds of each name that stayed
  pub none_stayed : (table : List (FileId × Vec ℕ Global)) → AreMembers (keys_of slots) table → (old_places : ℕ) → NoneStayedBehind slots (members_of table directory) at old_places
      → ((k : ℕ) → k < length (take old_places (members_of table directory)) → PassesAt directory at (λ name b. No name) slots (get_or (take old_places (members_of table directory)) k 0))
      → (name : List ℕ) (file : FileId) → map.get (stayed_shown directory at slots) name ≡ Some file → No name
  none_stayed table members old_places later each =
      walked_oldest directory at (λ name b. No name) slots table members old_places later
      (λ k d within. subst (PassesAt directory at (λ name b. No name) slots) (get_or_default (take old_places (members_of table directory)) k 0 d within) (each k within))

-- ---- the least place, as it is lent

module _ (slots : List (Place × Slot)) (file : FileId) (index : ℕ) where
  abbrev Least : Option (Bor Place) → Type 0
  Least least = LeastTo slots file index (option_map (λ p. p.now) least)

  pub least_first : index ≡ length slots → (least : Option (Bor Place)) → Least least
      → IfSome least (λ p. (other : state.Place) → map.get (names_shown slots) other ≡ Some file → place_cmp (place_of p.now) other ≢ Greater)
  least_first all None is = tt
  least_first all (Some p) is = least_of_all slots file p.now (subst (λ n. IsLeastTo slots file n p.now) all is)

  pub least_none : index ≡ length slots → (least : Option (Bor Place)) → Least least
      → IfNone least ((place : state.Place) → map.get (names_shown slots) place ≡ Some file → ⊥)
  least_none all None is = none_at_all slots file (subst (λ n. LeastTo slots file n None) all is)
  least_none all (Some p) is = tt
