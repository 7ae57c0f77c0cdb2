-- Maps and open directories of which each is within the other are the same.
use Rattle.std.proofs.Common.{◌≡◌, ℕ, Bool, true, false, cond, List, [], ◌∷◌, Option, None, Some, suc, refl, sym, ap, subst, ◌∙◌, arith}
use Rattle.std.specs.Prelude.{nat_eq}
use Rattle.std.specs.List.{All}
use Rattle.std.specs.Map.{keys_of, lookup}
use Rattle.std.specs.Option.{option_map, option_and_then, option_map_or}
use Rattle.std.specs.Ordering.{nat_cmp}
use Rattle.std.specs.declared.cmp.Ordering.{Ordering}
use Rattle.std.specs.Cmp.{IsTotalOrder}
use Rattle.std.specs.Cmp.Lexicographic.{nat_list_cmp_total}
use Rattle.std.specs.FinMap as map
use Rattle.std.specs.FinMap.{FinMap, IsAntisymmetric, same_map}
use Rattle.std.specs.FinSet.{contains, same_set}
use Rattle.std.proofs.lemmas.Bool.Decides.{nat_tests}
use Rattle.fa_store.proofs.CallerLemmas.{found_among}
use Rattle.fa_ledger.specs.contracts.name.NodeNamePartialEq.TheImpl as same_name
use Rattle.fa_ledger.specs.declared.name.NodeName.{NodeName}
use Rattle.fa_tree.specs.declared.id.FileId.{FileId}
use Rattle.fa_tree.specs.contracts.id.FileIdPartialEq.TheImpl as same_id
use Rattle.fa_tree.specs.declared.files.CountedFile.{CountedFile}
use Rattle.fa_tree.specs.declared.open.Opening.{Opening}
use Rattle.fa_tree.specs.declared.slots.Place.{Place}
use Rattle.fa_tree.specs.declared.slots.Slot.{Slot}
use Rattle.fa_tree.specs.declared.slots.Slot.TheVariants.{There, Gone}
use Rattle.fa_tree.specs.State as state
use Rattle.fa_tree.specs.State.{file_cmp, place_cmp, node_cmp, OpenDirectory}
use Rattle.fa_tree.specs.parts.FileIdLaws.{same_equal}
use Rattle.fa_tree.specs.parts.PlaceLaws.{same_place, names_apart}
use Rattle.fa_tree.specs.parts.FileParts.{file_shown, files_shown}
use Rattle.fa_tree.specs.parts.SlotParts.{place_of, is_at, slot_at, file_in, names_shown}
use Rattle.fa_tree.specs.parts.NameViews.{was_since, has_stayed, open_shown, handles_shown}
use Rattle.fa_tree.specs.parts.OpenParts.{last_opening, AreLast}
use Rattle.fa_tree.specs.parts.SameParts.{IsMapWithin, IsOpenWithin}
use Rattle.fa_tree.proofs.FileLemmas.{get_files}
use Rattle.fa_tree.proofs.NameLemmas.{get-names_shown, get-stayed_shown, contains-since_shown}
use Rattle.fa_tree.proofs.NodeLemmas.{get_shown, ties, name_same}
use Rattle.fa_tree.proofs.OpenLemmas.{get-shown_openings}

-- ---- look-ups

-- the key of an entry that is found is one of all keys
pub key_among : {K X : Type 0} (P : K → Type 0) (test : K → Bool) (es : List (K × X)) → All P (keys_of es) → (x : X) → lookup test es ≡ Some x
    → (key : K) × (test key ≡ true) × P key
key_among P test [] all x found = absurd (let clash : None ≡ Some x = found in cc)
key_among {K} {X} P test (e ∷ es) all x found = by (test e.0) refl found (key_among P test es (λ k d less. all (suc k) d (omega arith)) x)
  where
    by : (b : Bool) → test e.0 ≡ b → cond b (Some e.1) (lookup test es) ≡ Some x
        → (lookup test es ≡ Some x → (key : K) × (test key ≡ true) × P key) → (key : K) × (test key ≡ true) × P key
    by true is found later = (e.0, is, all 0 e.0 (omega arith))
    by false is found later = later found

-- ---- maps

pub within_both : {K X : Type 0} {R : K → K → Ordering} → IsTotalOrder R → IsAntisymmetric R → (m n : FinMap R X) → IsMapWithin m n → IsMapWithin n m → m ≡ n
within_both {K} {X} total apart m n there back = same_map total apart m n (λ q. by q (map.get m q) (map.get n q) refl refl)
  where
    by : (q : K) (x y : Option X) → map.get m q ≡ x → map.get n q ≡ y → map.get m q ≡ map.get n q
    by q (Some x) y is also = is ∙ sym (there q x is)
    by q None (Some y) is also = back q y also ∙ sym also
    by q None None is also = is ∙ sym also

-- ---- files, nodes and names

pub files_within : (table : List (FileId × CountedFile)) (others : FinMap file_cmp state.File)
    → All (λ e. map.get others e.0 ≡ Some (file_shown e.1.file)) table → IsMapWithin (files_shown table) others
files_within table others all key x there = by (lookup (same_id.eq-value.it key) table) refl (sym (get_files table key) ∙ there)
  where
    by : (found : Option CountedFile) → lookup (same_id.eq-value.it key) table ≡ found → option_map (λ (e : CountedFile). file_shown e.file) found ≡ Some x → map.get others key ≡ Some x
    by None was is = absurd (let clash : None ≡ Some x = is in cc)
    by (Some f) was is =
        let at = found_among (λ e. map.get others e.0 ≡ Some (file_shown e.1.file)) (same_id.eq-value.it key) table all f was in
        ap (map.get others) (same_equal key at.0 at.1) ∙ at.2 ∙ is

pub nodes_within : (table : List (NodeName × FileId)) (others : FinMap node_cmp FileId)
    → All (λ e. map.get others e.0 ≡ Some e.1) table → IsMapWithin (map.from_entries {R = node_cmp} table) others
nodes_within table others all key x there =
    let at = found_among (λ e. map.get others e.0 ≡ Some e.1) (same_name.eq-value.it key) table all x (sym (get_shown table key) ∙ there) in
    ap (map.get others) (name_same key at.0 (ties key at.0 ∙ at.1)) ∙ at.2

pub names_within : (slots : List (Place × Slot)) (others : FinMap place_cmp FileId)
    → All (λ e. (file : FileId) → file_in e.1 ≡ Some file → map.get others (place_of e.0) ≡ Some file) slots → IsMapWithin (names_shown slots) others
names_within slots others all place file there = by (slot_at slots place) refl (sym (get-names_shown slots place) ∙ there)
  where
    by : (found : Option Slot) → slot_at slots place ≡ found → option_and_then file_in found ≡ Some file → map.get others place ≡ Some file
    by None was is = absurd (let clash : None ≡ Some file = is in cc)
    by (Some slot) was is =
        let at = found_among (λ e. (file : FileId) → file_in e.1 ≡ Some file → map.get others (place_of e.0) ≡ Some file) (is_at place) slots all slot was in
        ap (map.get others) (same_place place (place_of at.0) at.1) ∙ at.2 file is

-- ---- open directories

-- whose file stayed was there
was_there : (slots : List (Place × Slot)) (directory : FileId) (at : ℕ) (name : List ℕ) → contains (open_shown slots directory at).since name ≡ false
    → map.get (open_shown slots directory at).stayed name ≡ None
was_there slots directory at name none = get-stayed_shown directory at slots name ∙ by (slot_at slots (directory, name)) (sym (contains-since_shown directory at slots name) ∙ none)
  where
    by : (slot : Option Slot) → option_map_or (was_since at) slot false ≡ false → option_and_then (has_stayed at) slot ≡ None
    by None is = refl
    by (Some (There file born)) is = absurd cc
    by (Some (Gone gone)) is = refl

both : (a b : Bool) → (a ≡ true → b ≡ true) → (b ≡ true → a ≡ true) → a ≡ b
both true b there back = sym (there refl)
both false true there back = back refl
both false false there back = refl

-- two open directories, each known in the other
pub open_same : (slots others : List (Place × Slot)) (directory other : FileId) (at from : ℕ) → directory ≡ other
    → IsOpenWithin (open_shown slots directory at) (open_shown others other from) → IsOpenWithin (open_shown others other from) (open_shown slots directory at)
    → open_shown slots directory at ≡ open_shown others other from
open_same slots others directory other at from is there back = λ i. record { directory = is i; since = same_since i; stayed = same_stayed i }
  where
    h : OpenDirectory
    h = open_shown slots directory at

    k : OpenDirectory
    k = open_shown others other from

    each_since : (name : List ℕ) → contains h.since name ≡ contains k.since name
    each_since name = both (contains h.since name) (contains k.since name) (there.since name) (back.since name)

    same_since : h.since ≡ k.since
    same_since = same_set nat_list_cmp_total names_apart h.since k.since each_since

    each_stayed : (name : List ℕ) (b : Bool) → contains h.since name ≡ b → map.get h.stayed name ≡ map.get k.stayed name
    each_stayed name true was = there.stayed name was
    each_stayed name false was = was_there slots directory at name was ∙ sym (was_there others other from name (sym (each_since name) ∙ was))

    same_stayed : h.stayed ≡ k.stayed
    same_stayed = same_map nat_list_cmp_total names_apart h.stayed k.stayed (λ name. each_stayed name (contains h.since name) refl)

-- what is known of a name and its slot is known of the names of the open directory
pub known_in : (slots : List (Place × Slot)) (directory : FileId) (at : ℕ) (k : OpenDirectory)
    → ((name : List ℕ) (slot : Slot) → slot_at slots (directory, name) ≡ Some slot → was_since at slot ≡ true
    → (contains k.since name ≡ true) × (map.get k.stayed name ≡ has_stayed at slot))
    → IsOpenWithin (open_shown slots directory at) k
known_in slots directory at k known = record {
  since = λ name is. (by name (slot_at slots (directory, name)) refl (sym (contains-since_shown directory at slots name) ∙ is)).0;
  stayed = λ name is.
      get-stayed_shown directory at slots name
      ∙ sym (by name (slot_at slots (directory, name)) refl (sym (contains-since_shown directory at slots name) ∙ is)).1;
}
  where
    by : (name : List ℕ) (slot : Option Slot) → slot_at slots (directory, name) ≡ slot → option_map_or (was_since at) slot false ≡ true
        → (contains k.since name ≡ true) × (map.get k.stayed name ≡ option_and_then (has_stayed at) slot)
    by name None was is = absurd (let clash : false ≡ true = is in cc)
    by name (Some slot) was is = known name slot was is

-- where such directories of those that the noted requests opened are the same in others, all such are
pub such_handles_within : (Such : ℕ → Type 0) (slots : List (Place × Slot)) (openings : List Opening) (places : List (ℕ × ℕ)) → AreLast places openings
    → (others : FinMap nat_cmp OpenDirectory) → All (λ asked. Such asked → map.get (handles_shown slots 0 map.empty openings) asked ≡ map.get others asked) (keys_of places)
    → (asked : ℕ) (h : OpenDirectory) → Such asked → map.get (handles_shown slots 0 map.empty openings) asked ≡ Some h → map.get others asked ≡ Some h
such_handles_within Such slots openings places last others all asked h such there = by (last_opening asked 0 openings) refl (sym (get-shown_openings slots openings asked) ∙ there)
  where
    by : (found : Option (ℕ × FileId)) → last_opening asked 0 openings ≡ found → option_map (λ p. open_shown slots p.1 p.0) found ≡ Some h → map.get others asked ≡ Some h
    by None was is = absurd (let clash : None ≡ Some h = is in cc)
    by (Some p) was is =
        let at = key_among (λ asked. Such asked → map.get (handles_shown slots 0 map.empty openings) asked ≡ map.get others asked) (nat_eq asked) places all p.0 (last asked ∙ ap (option_map (λ p. p.0)) was) in
        let same : asked ≡ at.0 = (let test : nat_eq asked at.0 ≡ true = at.1 in grind (arith, nat_tests)) in
        ap (map.get others) same ∙ sym (at.2 (subst Such same such)) ∙ ap (map.get (handles_shown slots 0 map.empty openings)) (sym same) ∙ there

-- so where all are
pub handles_within : (slots : List (Place × Slot)) (openings : List Opening) (places : List (ℕ × ℕ)) → AreLast places openings
    → (others : FinMap nat_cmp OpenDirectory) → All (λ asked. map.get (handles_shown slots 0 map.empty openings) asked ≡ map.get others asked) (keys_of places)
    → IsMapWithin (handles_shown slots 0 map.empty openings) others
handles_within slots openings places last others all asked h there =
    such_handles_within (λ opened. Unit {0}) slots openings places last others (λ k d less such. all k d less) asked h tt there

-- such as are the same in two maps, each of one in the other, are the same
pub such_both : (Such : ℕ → Type 0) (m n : FinMap nat_cmp OpenDirectory) → ((asked : ℕ) (h : OpenDirectory) → Such asked → map.get m asked ≡ Some h → map.get n asked ≡ Some h)
    → ((asked : ℕ) (h : OpenDirectory) → Such asked → map.get n asked ≡ Some h → map.get m asked ≡ Some h) → (asked : ℕ) → Such asked → map.get n asked ≡ map.get m asked
such_both Such m n there back asked such = by (map.get m asked) (map.get n asked) refl refl
  where
    by : (x y : Option OpenDirectory) → map.get m asked ≡ x → map.get n asked ≡ y → map.get n asked ≡ map.get m asked
    by (Some h) y is also = there asked h such is ∙ sym is
    by None (Some h) is also = also ∙ sym (back asked h such also)
    by None None is also = also ∙ sym is
