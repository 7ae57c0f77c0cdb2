-- What a walk over the places of a directory tells of the names that stayed in it.
use Rattle.std.proofs.Common.{◌≡◌, ℕ, ◌≤◌, Bool, true, false, cond, List, [], ◌∷◌, take, get_or, Option, None, Some, suc, refl, sym, ap, subst, ◌∙◌, arith}
use Rattle.std.specs.Prelude.{◌||◌, is_some, nat_eq, slice_get, IsTrue, Vec}
use Rattle.std.specs.Borrow.{Bor}
use Rattle.std.specs.Fn.{Shared, FnReturnsAt}
use Rattle.std.specs.List.{All, list_any}
use Rattle.std.specs.Map.{keys_of, lookup}
use Rattle.std.specs.Option.{option_map, option_and_then}
use Rattle.std.specs.FinMap as map
use Rattle.std.specs.declared.alloc.Global.{Global}
use Rattle.std.proofs.lemmas.Bool.Decides.{nat_tests}
use Rattle.std.proofs.lemmas.Option.{slice_get-get_or, slice_get-map}
use Rattle.fa_capture.proofs.CallerLemmas.{found_alike}
use Rattle.fa_tree.specs.declared.id.FileId.{FileId}
use Rattle.fa_tree.specs.contracts.slots.PlacePartialEq.TheImpl as same_key
use Rattle.fa_tree.specs.declared.slots.Place.{Place}
use Rattle.fa_tree.specs.declared.slots.Slot.{Slot}
use Rattle.fa_tree.specs.parts.BirthParts.{places_of, NoneStayedBehind}
use Rattle.fa_tree.specs.parts.MemberParts.{members_of, is_member, AreMembers}
use Rattle.fa_tree.specs.parts.PlaceLaws.{same_place}
use Rattle.fa_tree.specs.parts.SlotParts.{place_of, is_at, slot_at}
use Rattle.fa_tree.specs.parts.NameViews.{has_stayed, stayed_shown}
use Rattle.fa_tree.proofs.BirthLemmas.{all_from_first}
use Rattle.fa_tree.proofs.NameLemmas.{get-stayed_shown}
use Rattle.fa_tree.proofs.SlotLemmas.{keys_same}

-- what a closure answered at a value, where it answers by a test
pub answered : {F T R : Type 0} (g : Shared F (Bor T × Unit {0}) R) (f : F) (test : T → R) → ((p : Bor T) (r : R) → g.post f (p, tt) r → r ≡ test p.now) → (x : T) (r : R) → FnReturnsAt g f x r → r ≡ test x
answered g f test tests x r returned = tests returned.shown r returned.says.met ∙ ap test returned.shows

-- the file of a name that stayed is known
pub stayed_there : (directory : FileId) (at : ℕ) (slots : List (Place × Slot)) (key : Place) (slot : Slot) → lookup (same_key.eq-value.it key) slots ≡ Some slot
    → key.directory ≡ directory → (x : Option FileId) → x ≡ has_stayed at slot → is_some x ≡ true
    → (file : FileId) × (map.get (stayed_shown directory at slots) key.name.items ≡ Some file)
stayed_there directory at slots key slot found own None stayed some = absurd (let clash : false ≡ true = some in cc)
stayed_there directory at slots key slot found own (Some file) stayed some = (
  file,
  get-stayed_shown directory at slots key.name.items
      ∙ ap (λ d. option_and_then (has_stayed at) (slot_at slots (d, key.name.items))) (sym own)
      ∙ ap (option_and_then (has_stayed at)) (sym (found_alike (same_key.eq-value.it key) (is_at (place_of key)) slots (keys_same key)) ∙ found)
      ∙ sym stayed,
)

-- what holds of all indexes holds of one that is among them
holds_of : (P : ℕ → Type 0) (indexes : List ℕ) → All P indexes → (index : ℕ) → IsTrue (list_any (nat_eq index) indexes) → P index
holds_of P [] all index is = absurd cc
holds_of P (i ∷ indexes) all index is = by (nat_eq index i) refl is (holds_of P indexes (λ k d less. all (suc k) d (omega arith)) index)
  where
    by : (b : Bool) → nat_eq index i ≡ b → IsTrue (b || list_any (nat_eq index) indexes) → (IsTrue (list_any (nat_eq index) indexes) → P index) → P index
    by true test is later = let same : i ≡ index = grind (arith, nat_tests) in subst P same (all 0 i (omega arith))
    by false test is later = later is

module _ (directory : FileId) (Q : List ℕ → Slot → Type 0) where
  -- this holds of the name of a slot and the slot, if it is the directory's
  abbrev pub Holds : Place × Slot → Type 0
  Holds e = e.0.directory ≡ directory → Q e.0.name.items e.1

  found_holds : (slots : List (Place × Slot)) → All Holds slots → (name : List ℕ) (slot : Slot) → slot_at slots (directory, name) ≡ Some slot → Q name slot
  found_holds [] all name slot found = absurd (let clash : None ≡ Some slot = found in cc)
  found_holds (e ∷ slots) all name slot found =
      by (is_at (directory, name) e.0) refl found (λ found. found_holds slots (λ k d less. all (suc k) d (omega arith)) name slot found)
    where
      by : (b : Bool) → is_at (directory, name) e.0 ≡ b → cond b (Some e.1) (slot_at slots (directory, name)) ≡ Some slot
          → (slot_at slots (directory, name) ≡ Some slot → Q name slot) → Q name slot
      by true test found later =
          let own : (directory, name) ≡ place_of e.0 = same_place (directory, name) (place_of e.0) test in
          let same : e.1 ≡ slot = cc in
          subst (λ s. Q name s) same (subst (λ q. Q q e.1) (sym (ap (λ p. p.1) own)) (all 0 e (omega arith) (sym (ap (λ p. p.0) own))))
      by false test found later = later found

  -- of the slot at an index it holds, if there is one
  abbrev pub HoldsThere : List (Place × Slot) → ℕ → Type 0
  HoldsThere slots index = (place : Place) (slot : Slot) → slice_get slots index ≡ Some (place, slot) → Holds (place, slot)

  module _ (slots : List (Place × Slot)) (table : List (FileId × Vec ℕ Global)) (members : AreMembers (keys_of slots) table) (all : All (HoldsThere slots) (members_of table directory)) where
    -- where it holds at the indexes of the directory, it holds of all slots
    all_hold : All Holds slots
    all_hold k d less own =
        let e : Place × Slot = get_or slots k d in
        let there : slice_get slots k ≡ Some e = slice_get-get_or slots k d less in
        let place : slice_get (keys_of slots) k ≡ Some e.0 = slice_get-map (λ e. e.0) slots k ∙ ap (option_map (λ e. e.0)) there in
        holds_of (HoldsThere slots) (members_of table directory) all k (subst (λ of. IsTrue (is_member table of k)) own (members k e.0 place)) e.0 e.1 there own

    -- and so of the one that a name of the directory has
    pub walked_holds : (name : List ℕ) (slot : Slot) → slot_at slots (directory, name) ≡ Some slot → Q name slot
    walked_holds = found_holds slots all_hold

module _ (directory : FileId) (at : ℕ) (Answers : List ℕ → Bool → Type 0) where
  -- the test answers true at the name of a slot, if its file stayed
  abbrev pub Passes : List ℕ → Slot → Type 0
  Passes name slot = is_some (has_stayed at slot) ≡ true → Answers name true

  -- the slot at an index passes, if there is one
  abbrev pub PassesAt : List (Place × Slot) → ℕ → Type 0
  PassesAt = HoldsThere directory Passes

  -- it answers true at each name that stayed, where it passes at the oldest and the names behind them came later
  module _ (slots : List (Place × Slot)) (table : List (FileId × Vec ℕ Global)) (members : AreMembers (keys_of slots) table) (old_places : ℕ)
      (later : NoneStayedBehind slots (members_of table directory) at old_places) (oldest : All (PassesAt slots) (take old_places (members_of table directory))) where
    -- of the slot of a name, if it is the one that is found
    abbrev FoundPasses : List ℕ → Slot → Type 0
    FoundPasses name slot = slot_at slots (directory, name) ≡ Some slot → Passes name slot

    behind_passes : (k index : ℕ) → old_places ≤ k → slice_get (members_of table directory) k ≡ Some index → HoldsThere directory FoundPasses slots index
    behind_passes k index behind member place slot there own found stayed = absurd (
        let here : slice_get (places_of slots) index ≡ Some (place_of place) =
        slice_get-map place_of (keys_of slots) index ∙ ap (option_map place_of) (slice_get-map (λ e. e.0) slots index ∙ ap (option_map (λ e. e.0)) there) in
        let none : option_and_then (has_stayed at) (slot_at slots (directory, place.name.items)) ≡ None =
        subst (λ of. option_and_then (has_stayed at) (slot_at slots (of, place.name.items)) ≡ None) own (later k index (place_of place) behind member here) in
        let clash : false ≡ true = ap is_some (sym none ∙ ap (option_and_then (has_stayed at)) found) ∙ stayed in
        cc)

    pub walked_oldest : (name : List ℕ) (file : FileId) → map.get (stayed_shown directory at slots) name ≡ Some file → Answers name true
    walked_oldest name file stayed = by (slot_at slots (directory, name)) refl (sym (get-stayed_shown directory at slots name) ∙ stayed)
      where
        all : All (HoldsThere directory FoundPasses slots) (members_of table directory)
        all = all_from_first _ (members_of table directory) old_places (λ k d less place slot there own found. oldest k d less place slot there own) behind_passes

        by : (x : Option Slot) → slot_at slots (directory, name) ≡ x → option_and_then (has_stayed at) x ≡ Some file → Answers name true
        by None was is = absurd (let clash : None ≡ Some file = is in cc)
        by (Some slot) was is = walked_holds directory FoundPasses slots table members all name slot was was (ap is_some is)
