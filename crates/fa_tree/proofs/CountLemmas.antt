-- What is counted of files, as names come and go.
use Rattle.std.proofs.Common.{◌≡◌, ◌≢◌, if◌then◌else◌, ℕ, ◌+◌, ◌-◌, ◌<◌, ◌≤◌, Bool, true, false, cond, List, [], ◌∷◌, length, zero, suc, Option, None, Some, inl, inr, refl, sym, ap, subst, ◌∙◌, arith}
use Rattle.std.specs.Prelude.{◌&&◌, ◌⊎◌, T, not, nat_eq, is_some, count_by, option_map, ◌↔◌, IsTrue, IfSome}
use Rattle.std.specs.Borrow.{Bor}
use Rattle.std.specs.Option.{option_copied, unwrap_or}
use Rattle.std.specs.Ordering.{eq_by_cmp, is_eq, is_lt}
use Rattle.std.specs.declared.cmp.Ordering.{Ordering}
use Rattle.std.specs.declared.cmp.Ordering.TheVariants.{Less, Equal, Greater}
use Rattle.std.specs.Cmp.{IsTotalOrder, tied_itself, Equal-is}
use Rattle.std.specs.FinMap as map
use Rattle.std.specs.FinMap.{FinMap, IsAntisymmetric, put, same_map, get-entries, entries-insert, entries_sorted, len-entries, len-empty}
use Rattle.std.proofs.lemmas.Bool.Decides.{nat_tests}
use Rattle.std.proofs.lemmas.List.Sums.{count_by-le-length, sum_by-cons}
use Rattle.fa_tree.specs.declared.id.FileId.{FileId}
use Rattle.fa_tree.specs.Edits.{names_after}
use Rattle.fa_tree.specs.Edits.Edit.{Added, Removed}
use Rattle.fa_tree.specs.Renaming.{moved}
use Rattle.fa_tree.specs.State as state
use Rattle.fa_tree.specs.State.{place_cmp, file_eq}
use Rattle.fa_tree.specs.declared.slots.Place.{Place}
use Rattle.fa_tree.specs.declared.slots.Slot.{Slot}
use Rattle.fa_tree.specs.declared.files.Counts.{Counts}
use Rattle.fa_tree.specs.declared.files.CountedFile.{CountedFile}
use Rattle.fa_tree.specs.contracts.id.FileIdPartialEq.TheImpl as derived
use Rattle.fa_tree.specs.parts.FileIdLaws.{file_equiv, file_self, file_ties, same_file}
use Rattle.fa_tree.specs.parts.FileParts.{file_shown, files_shown}
use Rattle.fa_tree.specs.parts.PlaceLaws.{place_cmp_total, places_apart}
use Rattle.fa_tree.specs.parts.SlotParts.{place_of, file_in, put_or_not, names_shown}
use Rattle.fa_tree.proofs.FileLemmas.{get_files}
use Rattle.fa_tree.specs.parts.CountParts.{nothing_counted, one_link_more, one_inside_more, entry_of, counts_of, IsKnown, AreCounted}

-- ---- how many entries of a map pass a test

later_one : (a b c d : ℕ) → c ≡ b + d → a + c ≡ b + (a + d)
later_one a b c d is = omega arith

both_true : (a b : Bool) → T (a && b) → T a × T b
both_true true b both = (tt, both)
both_true false b both = absurd both

count_more : {A : Type 0} (p : A → Bool) (e : A) (es : List A) → count_by p (e ∷ es) ≡ cond (p e) 1 0 + count_by p es
count_more p e es = sum_by-cons (λ x. cond (p x) 1 0) e es

module _ {K X : Type 0} (R : K → K → Ordering) (p : K × X → Bool) where
  -- a key that was not there is one entry more
  count_put : (k : K) (v : X) (es : List (K × X)) → map.find R k es ≡ None → count_by p (put R k v es) ≡ cond (p (k, v)) 1 0 + count_by p es
  count_put k v [] none = count_more p (k, v) []
  count_put k v (e ∷ es) none = by (R k e.0) refl none (count_put k v es)
    where
      by : (r : Ordering) → R k e.0 ≡ r → cond (is_eq r) (Some e.1) (map.find R k es) ≡ None
          → (map.find R k es ≡ None → count_by p (put R k v es) ≡ cond (p (k, v)) 1 0 + count_by p es)
          → count_by p (map.Entries.by_order r ((k, v) ∷ e ∷ es) ((e.0, v) ∷ es) (e ∷ put R k v es)) ≡ cond (p (k, v)) 1 0 + count_by p (e ∷ es)
      by Less test none later = count_more p (k, v) (e ∷ es)
      by Equal test none later = absurd (let clash : Some e.1 ≡ None = none in cc)
      by Greater test none later =
          count_more p e (put R k v es)
          ∙ later_one (cond (p e) 1 0) (cond (p (k, v)) 1 0) (count_by p (put R k v es)) (count_by p es) (later none)
          ∙ ap (λ n. cond (p (k, v)) 1 0 + n) (sym (count_more p e es))

module _ {K X : Type 0} (R : K → K → Ordering) where
  -- a key below all is not there
  below_none : (k : K) (es : List (K × X)) → T (map.Entries.below_all R k es) → map.find R k es ≡ None
  below_none k [] below = refl
  below_none k (e ∷ es) below = by (R k e.0) refl below (below_none k es)
    where
      by : (r : Ordering) → R k e.0 ≡ r → T (is_lt r && map.Entries.below_all R k es) → (T (map.Entries.below_all R k es) → map.find R k es ≡ None)
          → cond (is_eq r) (Some e.1) (map.find R k es) ≡ None
      by Less test below later = later below
      by Equal test below later = absurd below
      by Greater test below later = absurd below

module _ {K X : Type 0} {R : K → K → Ordering} (o : IsTotalOrder R) (apart : IsAntisymmetric R) (p : K × X → Bool) where
  abbrev Found : List (K × X) → Type 0
  Found es = (k : K) × (v : X) × (map.find R k es ≡ Some v) × (p (k, v) ≡ true)

  -- an entry that passes is found by its key
  found_entry : (es : List (K × X)) → T (map.is_sorted R es) → 0 < count_by p es → Found es
  found_entry [] sorted some = absurd (omega arith)
  found_entry (e ∷ es) sorted some = by (p e) refl (subst (λ n. 0 < n) (count_more p e es) some) (found_entry es parts.1)
    where
      parts : T (map.Entries.below_all R e.0 es) × T (map.is_sorted R es)
      parts = both_true _ _ sorted

      behind : (k : K) (v : X) (b : Bool) → eq_by_cmp R k e.0 ≡ b → map.find R k es ≡ Some v → cond b (Some e.1) (map.find R k es) ≡ Some v
      behind k v true test found =
          let same : k ≡ e.0 = apart k e.0 ((Equal-is (R k e.0)).0 test) in
          let clash : Some v ≡ None = sym found ∙ ap (λ q. map.find R q es) same ∙ below_none R e.0 es parts.0 in
          absurd cc
      behind k v false test found = found

      by : (b : Bool) → p e ≡ b → 0 < cond b 1 0 + count_by p es → (0 < count_by p es → Found es) → Found (e ∷ es)
      by true test some later = (e.0, e.1, ap (λ r. cond (is_eq r) (Some e.1) (map.find R e.0 es)) (tied_itself o e.0), test)
      by false test some later =
          let rest = later (omega arith) in
          (rest.0, rest.1, behind rest.0 rest.1 (eq_by_cmp R rest.0 e.0) refl rest.2, rest.3)

  pub count_insert : (m : FinMap R X) (k : K) (v : X) → map.get m k ≡ None → count_by p (map.entries (map.insert m k v)) ≡ cond (p (k, v)) 1 0 + count_by p (map.entries m)
  count_insert m k v none = ap (count_by p) (entries-insert o m k v) ∙ count_put R p k v (map.entries m) (sym (get-entries m k) ∙ none)

  pub found : (m : FinMap R X) → 0 < count_by p (map.entries m) → (k : K) × (v : X) × (map.get m k ≡ Some v) × (p (k, v) ≡ true)
  found m some =
      let one = found_entry (map.entries m) (entries_sorted m) some in
      (one.0, one.1, get-entries m one.0 ∙ one.2, one.3)

own : {K : Type 0} {R : K → K → Ordering} → IsTotalOrder R → (k : K) → eq_by_cmp R k k ≡ true
own o k = ap is_eq (tied_itself o k)

-- a key that was taken away is not there
pub remove_gone : {K X : Type 0} {R : K → K → Ordering} → IsTotalOrder R → (m : FinMap R X) (k : K) → map.get (map.remove m k) k ≡ None
remove_gone o m k = map.get-remove o m k k ∙ ap (λ b. cond b None (map.get m k)) (own o k)

module _ {K X : Type 0} {R : K → K → Ordering} (o : IsTotalOrder R) (apart : IsAntisymmetric R) where
  -- what was there is put again
  pub insert_again : (m : FinMap R X) (k : K) (v : X) → map.get m k ≡ Some v → map.insert (map.remove m k) k v ≡ m
  insert_again m k v there = same_map o apart _ _ (λ q.
      map.get-insert o (map.remove m k) k v q ∙ ap (cond (eq_by_cmp R q k) (Some v)) (map.get-remove o m k q) ∙ by q (eq_by_cmp R q k) refl)
    where
      by : (q : K) (b : Bool) → eq_by_cmp R q k ≡ b → cond b (Some v) (cond b None (map.get m q)) ≡ map.get m q
      by q true test = sym (ap (map.get m) (apart q k ((Equal-is (R q k)).0 test)) ∙ there)
      by q false test = refl

  -- a key that is taken away is one entry fewer
  pub count_remove : (p : K × X → Bool) (m : FinMap R X) (k : K) (v : X) → map.get m k ≡ Some v → count_by p (map.entries m) ≡ cond (p (k, v)) 1 0 + count_by p (map.entries (map.remove m k))
  count_remove p m k v there =
      ap (λ n. count_by p (map.entries n)) (sym (insert_again m k v there))
      ∙ count_insert o apart p (map.remove m k) k v (remove_gone o m k)

-- ---- names

-- as many names as slots, at most
pub names_few : (slots : List (Place × Slot)) → map.len (names_shown slots) ≤ length slots
names_few [] = let none = len-empty place_cmp FileId in omega (arith, none)
names_few (e ∷ slots) = by (file_in e.1) (names_few slots)
  where
    before : FinMap place_cmp FileId
    before = names_shown slots

    fewer : (b : Bool) (n m : ℕ) → n ≤ m → cond b (n - 1) n ≤ suc m
    fewer true n m few = omega arith
    fewer false n m few = omega arith

    more : (b : Bool) (n m : ℕ) → n ≤ m → cond b n (n + 1) ≤ suc m
    more true n m few = omega arith
    more false n m few = omega arith

    by : (file : Option FileId) → map.len before ≤ length slots → map.len (put_or_not before (place_of e.0) file) ≤ suc (length slots)
    by None few = subst (λ n. n ≤ suc (length slots)) (sym (map.len-remove place_cmp_total before (place_of e.0))) (fewer _ (map.len before) (length slots) few)
    by (Some file) few = subst (λ n. n ≤ suc (length slots)) (sym (map.len-insert place_cmp_total before (place_of e.0) file)) (more _ (map.len before) (length slots) few)

-- a name is taken away: no more names
pub remove_few : {most : ℕ} (names : FinMap place_cmp FileId) (place : state.Place) → map.len names < most → map.len (map.remove names place) < most
remove_few {most} names place few = subst (λ n. n < most) (sym (map.len-remove place_cmp_total names place)) (fewer _ (map.len names) few)
  where
    fewer : (b : Bool) (n : ℕ) → n < most → cond b (n - 1) n < most
    fewer true n few = omega arith
    fewer false n few = few

-- ---- what is counted of one file changes

-- what is counted after one change
module _ (old new : FileId → Counts) (at : FileId) (w : Counts) (wrote : (of : FileId) → new of ≡ cond (file_eq of at) w (old of)) (part : Counts → ℕ) where
  changed : (of : FileId) (b : Bool) → cond b (part w) (part (old of)) ≡ part (cond b w (old of))
  changed of true = refl
  changed of false = refl

  pub part_grown : part w ≡ part (old at) + 1 → (of : FileId) → part (new of) ≡ cond (file_eq at of) 1 0 + part (old of)
  part_grown more of = ap part (wrote of) ∙ by (file_eq of at) refl ∙ ap (λ b. cond b 1 0 + part (old of)) (file_equiv.symm of at)
    where
      by : (b : Bool) → file_eq of at ≡ b → part (cond b w (old of)) ≡ cond b 1 0 + part (old of)
      by true test = let same : part (old of) ≡ part (old at) = ap (λ f. part (old f)) (same_file of at test) in omega (arith, more, same)
      by false test = omega arith

  pub part_shrunk : part w + 1 ≡ part (old at) → (of : FileId) → cond (file_eq at of) 1 0 + part (new of) ≡ part (old of)
  part_shrunk less of = ap (λ h. cond (file_eq at of) 1 0 + part h) (wrote of) ∙ ap (λ b. cond b 1 0 + part (cond (file_eq of at) w (old of))) (file_equiv.symm at of) ∙ by (file_eq of at) refl
    where
      by : (b : Bool) → file_eq of at ≡ b → cond b 1 0 + part (cond b w (old of)) ≡ part (old of)
      by true test = let same : part (old of) ≡ part (old at) = ap (λ f. part (old f)) (same_file of at test) in omega (arith, less, same)
      by false test = omega arith

module _ {A : Type 0} (old new : FileId → Counts) (at : FileId) (w : Counts) (wrote : (of : FileId) → new of ≡ cond (file_eq of at) w (old of)) (part : Counts → A) where
  pub part_kept : part w ≡ part (old at) → (of : FileId) → part (new of) ≡ part (old of)
  part_kept same of = ap part (wrote of) ∙ by (file_eq of at) refl
    where
      by : (b : Bool) → file_eq of at ≡ b → part (cond b w (old of)) ≡ part (old of)
      by true test = same ∙ sym (ap (λ f. part (old f)) (same_file of at test))
      by false test = refl

-- an entry is written
module _ (old new : List (FileId × CountedFile)) (at : FileId) (w : CountedFile)
    (wrote : (of : FileId) → entry_of new of ≡ cond (derived.eq-value.it at of) (Some w) (entry_of old of)) where
  entry_written : (of : FileId) → entry_of new of ≡ cond (file_eq of at) (Some w) (entry_of old of)
  entry_written of = wrote of ∙ ap (λ b. cond b (Some w) (entry_of old of)) (sym (file_ties at of) ∙ file_equiv.symm at of)

  pub counts_written : (of : FileId) → counts_of new of ≡ cond (file_eq of at) w.counts (counts_of old of)
  counts_written of = ap counts (entry_written of) ∙ by (file_eq of at)
    where
      counts : Option CountedFile → Counts
      counts entry = unwrap_or (option_map (λ (e : CountedFile). e.counts) entry) nothing_counted

      by : (b : Bool) → counts (cond b (Some w) (entry_of old of)) ≡ cond b w.counts (counts (entry_of old of))
      by true = refl
      by false = refl

  pub known_written : (of : FileId) → IsKnown old of → IsKnown new of
  known_written of known = ap is_some (entry_written of) ∙ by (file_eq of at)
    where
      by : (b : Bool) → is_some (cond b (Some w) (entry_of old of)) ≡ true
      by true = refl
      by false = known

  -- with a change of what is counted of it
  pub counts_changed : (change : Counts → Counts) → w.counts ≡ change (counts_of old at) → (of : FileId) → counts_of new of ≡ cond (file_eq of at) (change (counts_of old at)) (counts_of old of)
  counts_changed change is of = counts_written of ∙ ap (λ c. cond (file_eq of at) c (counts_of old of)) is

  -- what is counted of it stays
  pub counts_stay : w.counts ≡ counts_of old at → (of : FileId) → counts_of new of ≡ counts_of old of
  counts_stay is of = counts_written of ∙ by (file_eq of at) refl
    where
      by : (b : Bool) → file_eq of at ≡ b → cond b w.counts (counts_of old of) ≡ counts_of old of
      by true test = is ∙ sym (ap (counts_of old) (same_file of at test))
      by false test = refl

-- an entry is taken away
pub counts_gone : (old new : List (FileId × CountedFile)) (at : FileId)
    → ((of : FileId) → entry_of new of ≡ cond (derived.eq-value.it at of) None (entry_of old of))
    → (of : FileId) → counts_of new of ≡ cond (file_eq of at) nothing_counted (counts_of old of)
counts_gone old new at wrote of = ap counts (wrote of) ∙ ap (λ b. counts (cond b None (entry_of old of))) (sym (file_ties at of) ∙ file_equiv.symm at of) ∙ by (file_eq of at)
  where
    counts : Option CountedFile → Counts
    counts entry = unwrap_or (option_map (λ (e : CountedFile). e.counts) entry) nothing_counted

    by : (b : Bool) → counts (cond b None (entry_of old of)) ≡ cond b nothing_counted (counts (entry_of old of))
    by true = refl
    by false = refl

-- of a file without an entry nothing is counted
pub counts_none : (table : List (FileId × CountedFile)) (file : FileId) → entry_of table file ≡ None → counts_of table file ≡ nothing_counted
counts_none table file none = ap (λ e. unwrap_or (option_map (λ (e : CountedFile). e.counts) e) nothing_counted) none

-- what an entry counts is what is counted of its file
pub counts_there : (table : List (FileId × CountedFile)) (file : FileId) (entry : CountedFile) → Some entry ≡ entry_of table file → entry.counts ≡ counts_of table file
counts_there table file entry there = ap (λ e. unwrap_or (option_map (λ (e : CountedFile). e.counts) e) nothing_counted) there

-- and what is counted in an entry that is lent
pub lent_counts : (table : List (FileId × CountedFile)) (file : FileId) (lent : Option (Bor CountedFile)) → option_copied lent ≡ entry_of table file
    → IfSome lent (λ e. e.now.counts ≡ counts_of table file)
lent_counts table file None is = tt
lent_counts table file (Some e) is = counts_there table file e.now is

-- a file that comes and goes again leaves what was counted
pub counts_back : (old more left : FileId → Counts) (id : FileId) (w : Counts) → old id ≡ nothing_counted → ((of : FileId) → more of ≡ cond (file_eq of id) w (old of))
    → ((of : FileId) → left of ≡ cond (file_eq of id) nothing_counted (more of)) → (of : FileId) → left of ≡ old of
counts_back old more left id w none came went of = went of ∙ ap (cond (file_eq of id) nothing_counted) (came of) ∙ by (file_eq of id) refl
  where
    by : (b : Bool) → file_eq of id ≡ b → cond b nothing_counted (cond b w (old of)) ≡ old of
    by true test = sym (ap old (same_file of id test) ∙ none)
    by false test = refl

-- ---- names are counted

-- nothing is counted where there is no name
pub none_counted : (counts : FileId → Counts) → ((file : FileId) → counts file ≡ nothing_counted) → AreCounted (names_shown []) counts
none_counted counts zeros = record {
  links = λ file. ap (λ c. c.links) (zeros file) ∙ sym (none (λ entry. file_eq entry.1 file));
  inside = λ directory. ap (λ c. c.inside) (zeros directory) ∙ sym (none (λ entry. file_eq entry.0.0 directory));
}
  where
    no_entry : (p : state.Place × FileId → Bool) (es : List (state.Place × FileId)) → length es ≡ 0 → count_by p es ≡ 0
    no_entry p [] long = refl
    no_entry p (e ∷ es) long = absurd (omega arith)

    none : (p : state.Place × FileId → Bool) → count_by p (map.entries (names_shown [])) ≡ 0
    none p = no_entry p _ (sym (len-entries (names_shown [])) ∙ len-empty place_cmp FileId)

-- of the same that is counted the same is counted
pub same_counted : (names : FinMap place_cmp FileId) (old new : FileId → Counts) → ((of : FileId) → new of ≡ old of) → AreCounted names old → AreCounted names new
same_counted names old new same counted = record {
  links = λ file. ap (λ c. c.links) (same file) ∙ counted.links file;
  inside = λ directory. ap (λ c. c.inside) (same directory) ∙ counted.inside directory;
}

-- a name comes
pub added_counted : (old between new : FileId → Counts) (directory file : FileId) (v w : Counts)
    → ((of : FileId) → between of ≡ cond (file_eq of file) v (old of)) → ((of : FileId) → new of ≡ cond (file_eq of directory) w (between of))
    → v.links ≡ (old file).links + 1 → v.inside ≡ (old file).inside
    → w.links ≡ (between directory).links → w.inside ≡ (between directory).inside + 1
    → (names : FinMap place_cmp FileId) (name : List ℕ) → map.get names (directory, name) ≡ None
    → AreCounted names old → AreCounted (map.insert names (directory, name) file) new
added_counted old between new directory file v w first second v_links v_inside w_links w_inside names name free counted = record {
  links = λ of.
      part_kept between new directory w second (λ c. c.links) w_links of
      ∙ part_grown old between file v first (λ c. c.links) v_links of
      ∙ ap (λ n. cond (file_eq file of) 1 0 + n) (counted.links of)
      ∙ sym (count_insert place_cmp_total places_apart (λ entry. file_eq entry.1 of) names (directory, name) file free);
  inside = λ of.
      part_grown between new directory w second (λ c. c.inside) w_inside of
      ∙ ap (λ n. cond (file_eq directory of) 1 0 + n) (part_kept old between file v first (λ c. c.inside) v_inside of ∙ counted.inside of)
      ∙ sym (count_insert place_cmp_total places_apart (λ entry. file_eq entry.0.0 of) names (directory, name) file free);
}

-- a file comes with its one name
pub made_counted : (old between new : FileId → Counts) (directory file : FileId) → old file ≡ nothing_counted
    → ((of : FileId) → between of ≡ cond (file_eq of file) (one_link_more nothing_counted) (old of))
    → ((of : FileId) → new of ≡ cond (file_eq of directory) (one_inside_more (between directory)) (between of))
    → (names : FinMap place_cmp FileId) (name : List ℕ) → map.get names (directory, name) ≡ None
    → AreCounted names old → AreCounted (map.insert names (directory, name) file) new
made_counted old between new directory file none first second =
    added_counted old between new directory file (one_link_more nothing_counted) (one_inside_more (between directory)) first second
    (sym (ap (λ (c : Counts). c.links + 1) none)) (sym (ap (λ (c : Counts). c.inside) none)) refl refl

-- a name goes
pub removed_counted : (old between new : FileId → Counts) (directory file : FileId) (v w : Counts)
    → ((of : FileId) → between of ≡ cond (file_eq of file) v (old of)) → ((of : FileId) → new of ≡ cond (file_eq of directory) w (between of))
    → v.links + 1 ≡ (old file).links → v.inside ≡ (old file).inside
    → w.links ≡ (between directory).links → w.inside + 1 ≡ (between directory).inside
    → (names : FinMap place_cmp FileId) (name : List ℕ) → map.get names (directory, name) ≡ Some file
    → AreCounted names old → AreCounted (map.remove names (directory, name)) new
removed_counted old between new directory file v w first second v_links v_inside w_links w_inside names name there counted = record {
  links = λ of.
      part_kept between new directory w second (λ c. c.links) w_links of
      ∙ one_less (cond (file_eq file of) 1 0) _ _
      (part_shrunk old between file v first (λ c. c.links) v_links of
      ∙ counted.links of
      ∙ count_remove place_cmp_total places_apart (λ entry. file_eq entry.1 of) names (directory, name) file there);
  inside = λ of.
      one_less (cond (file_eq directory of) 1 0) _ _
      (part_shrunk between new directory w second (λ c. c.inside) w_inside of
      ∙ part_kept old between file v first (λ c. c.inside) v_inside of
      ∙ counted.inside of
      ∙ count_remove place_cmp_total places_apart (λ entry. file_eq entry.0.0 of) names (directory, name) file there);
}
  where
    one_less : (c m n : ℕ) → c + m ≡ c + n → m ≡ n
    one_less c m n same = omega arith

-- what is at another place stays where a name goes
pub removed_other : (names : FinMap place_cmp FileId) (one other : state.Place) (file : FileId) → map.get names one ≡ Some file → (map.get names other ≡ Some file → ⊥)
    → map.get (map.remove names one) other ≡ map.get names other
removed_other names one other file there apart = map.get-remove place_cmp_total names one other ∙ by (eq_by_cmp place_cmp other one) refl
  where
    by : (b : Bool) → eq_by_cmp place_cmp other one ≡ b → cond b None (map.get names other) ≡ map.get names other
    by true test = absurd (apart (ap (map.get names) (places_apart other one ((Equal-is (place_cmp other one)).0 test)) ∙ there))
    by false test = refl

-- a name is another file's: one fewer passes where the old one did, and one more where the new one does
pub put_counts : (p : state.Place × FileId → Bool) (names : FinMap place_cmp FileId) (place : state.Place) (old file : FileId) → map.get names place ≡ Some old
    → count_by p (map.entries (map.insert (map.remove names place) place file)) + cond (p (place, old)) 1 0 ≡ count_by p (map.entries names) + cond (p (place, file)) 1 0
put_counts p names place old file there =
    let more = count_insert place_cmp_total places_apart p (map.remove names place) place file (remove_gone place_cmp_total names place) in
    let less = count_remove place_cmp_total places_apart p names place old there in
    omega (arith, more, less)

-- without a name, if there is one
abbrev pub without : FinMap place_cmp FileId → state.Place → Option FileId → FinMap place_cmp FileId
without names place None = names
without names place (Some file) = map.remove names place

pub without_none : (names : FinMap place_cmp FileId) (place : state.Place) (taken : Option FileId) → map.get names place ≡ taken → map.get (without names place taken) place ≡ None
without_none names place None is = is
without_none names place (Some file) is = remove_gone place_cmp_total names place

pub without_few : {most : ℕ} (names : FinMap place_cmp FileId) (one place : state.Place) (taken : Option FileId) → map.len names < most → map.len (without (map.remove names one) place taken) < most
without_few names one place None few = remove_few names one few
without_few names one place (Some file) few = remove_few (map.remove names one) place (remove_few names one few)

-- what a move leaves: the names without the old one and without the one that was there, and with the new one
pub moved_names : (names : FinMap place_cmp FileId) (old_directory : FileId) (old_name : List ℕ) (new_directory : FileId) (new_name : List ℕ) (file : FileId) (taken : Option FileId) → taken ≢ Some file
    → map.insert (without (map.remove names (old_directory, old_name)) (new_directory, new_name) taken) (new_directory, new_name) file
    ≡ names_after (moved old_directory old_name new_directory new_name file taken) names
moved_names names old_directory old_name new_directory new_name file None apart = refl
moved_names names old_directory old_name new_directory new_name file (Some other) apart = by (file_eq other file) refl
  where
    by : (b : Bool) → file_eq other file ≡ b
        → map.insert (map.remove (map.remove names (old_directory, old_name)) (new_directory, new_name)) (new_directory, new_name) file
        ≡ names_after (if b then [] else Removed old_directory old_name ∷ Removed new_directory new_name ∷ Added new_directory new_name file ∷ []) names
    by true test = absurd (apart (ap Some (same_file other file test)))
    by false test = refl

-- ---- what the counts tell

module _ (names : FinMap place_cmp FileId) (counts : FileId → Counts) (counted : AreCounted names counts) where
  some_more : (b : Bool) (m n : ℕ) → b ≡ true → m ≡ cond b 1 0 + n → 0 < m
  some_more true m n is more = omega arith
  some_more false m n is more = absurd cc

  -- a file that has a name is counted, and so is a directory that one is in
  pub some_links : (place : state.Place) (file : FileId) → map.get names place ≡ Some file → 0 < (counts file).links
  some_links place file there =
      some_more (file_eq file file) _ _ (file_self file)
      (counted.links file ∙ count_remove place_cmp_total places_apart (λ entry. file_eq entry.1 file) names place file there)

  pub some_inside : (place : state.Place) (file : FileId) → map.get names place ≡ Some file → 0 < (counts place.0).inside
  some_inside place file there =
      some_more (file_eq place.0 place.0) _ _ (file_self place.0)
      (counted.inside place.0 ∙ count_remove place_cmp_total places_apart (λ entry. file_eq entry.0.0 place.0) names place file there)

  -- and what is counted is there
  pub name_of : (file : FileId) → 0 < (counts file).links → (directory : FileId) × (name : List ℕ) × (map.get names (directory, name) ≡ Some file)
  name_of file some =
      let one = found place_cmp_total places_apart (λ entry. file_eq entry.1 file) names (subst (λ n. 0 < n) (counted.links file) some) in
      (one.0.0, one.0.1, one.2 ∙ ap Some (same_file one.1 file one.3))

  pub name_in : (directory : FileId) → 0 < (counts directory).inside → (name : List ℕ) × (file : FileId) × (map.get names (directory, name) ≡ Some file)
  name_in directory some =
      let one = found place_cmp_total places_apart (λ entry. file_eq entry.0.0 directory) names (subst (λ n. 0 < n) (counted.inside directory) some) in
      (one.0.1, one.1, ap (λ d. map.get names (d, one.0.1)) (sym (same_file one.0.0 directory one.3)) ∙ one.2)

  -- no more are counted than there are names
  pub few_links : (file : FileId) → (counts file).links ≤ map.len names
  few_links file =
      let few = count_by-le-length (λ entry. file_eq entry.1 file) (map.entries names) in
      let is = counted.links file in
      let all = len-entries names in
      omega (arith, few, is, all)

  pub few_inside : (directory : FileId) → (counts directory).inside ≤ map.len names
  few_inside directory =
      let few = count_by-le-length (λ entry. file_eq entry.0.0 directory) (map.entries names) in
      let is = counted.inside directory in
      let all = len-entries names in
      omega (arith, few, is, all)

-- what is counted of a file has an entry
pub known_links : (table : List (FileId × CountedFile)) (file : FileId) → 0 < (counts_of table file).links → IsKnown table file
known_links table file some = by (entry_of table file) some
  where
    by : (entry : Option CountedFile) → 0 < (unwrap_or (option_map (λ (e : CountedFile). e.counts) entry) nothing_counted).links → is_some entry ≡ true
    by None some = absurd (omega arith)
    by (Some entry) some = refl

-- a file that is shown has an entry
pub known_shown : (table : List (FileId × CountedFile)) (file : FileId) (f : state.File) → map.get (files_shown table) file ≡ Some f → IsKnown table file
known_shown table file f there = by (entry_of table file) (sym (get_files table file) ∙ there)
  where
    by : (entry : Option CountedFile) → option_map (λ (e : CountedFile). file_shown e.file) entry ≡ Some f → is_some entry ≡ true
    by None there = absurd (let clash : None ≡ Some f = there in cc)
    by (Some entry) there = refl

-- of one that is not nothing is counted
pub none_shown : (table : List (FileId × CountedFile)) (file : FileId) → map.get (files_shown table) file ≡ None → counts_of table file ≡ nothing_counted
none_shown table file none = by (entry_of table file) (sym (get_files table file) ∙ none)
  where
    by : (entry : Option CountedFile) → option_map (λ (e : CountedFile). file_shown e.file) entry ≡ None → unwrap_or (option_map (λ (e : CountedFile). e.counts) entry) nothing_counted ≡ nothing_counted
    by None none = refl
    by (Some entry) none = absurd (let clash : Some (file_shown entry.file) ≡ None = none in cc)

-- whether a count is zero tells whether there is no name
module _ (names : FinMap place_cmp FileId) (counts : FileId → Counts) (counted : AreCounted names counts) (n : ℕ) where
  is_zero : (m : ℕ) → nat_eq m 0 ≡ true → m ≡ 0
  is_zero m test = grind (arith, nat_tests)

  zero_or_more : (m : ℕ) → (nat_eq m 0 ≡ true) ⊎ (0 < m)
  zero_or_more zero = inl refl
  zero_or_more (suc m) = inr (omega arith)

  none_named : (file : FileId) → n ≡ (counts file).links → n ≡ 0 → (directory : FileId) (name : List ℕ) → map.get names (directory, name) ≡ Some file → ⊥
  none_named file is none directory name there =
      let some = some_links names counts counted (directory, name) file there in
      omega (arith, some, none, is)

  pub tells_named : (file : FileId) → n ≡ (counts file).links
      → IsTrue (not (nat_eq n 0)) ↔ ((directory : FileId) × (name : List ℕ) × (map.get names (directory, name) ≡ Some file))
  tells_named file is = (λ test. named (zero_or_more n) test, λ some. by (nat_eq n 0) refl some)
    where
      named : (nat_eq n 0 ≡ true) ⊎ (0 < n) → IsTrue (not (nat_eq n 0)) → (directory : FileId) × (name : List ℕ) × (map.get names (directory, name) ≡ Some file)
      named (inl none) test = absurd (let clash : true ≡ false = sym test ∙ ap not none in cc)
      named (inr some) test = name_of names counts counted file (omega (arith, is))

      by : (b : Bool) → nat_eq n 0 ≡ b → ((directory : FileId) × (name : List ℕ) × (map.get names (directory, name) ≡ Some file)) → IsTrue (not b)
      by true test some = absurd (none_named file is (is_zero n test) some.0 some.1 some.2)
      by false test some = refl

  pub tells_empty : (directory : FileId) → n ≡ (counts directory).inside → IsTrue (nat_eq n 0) ↔ ((name : List ℕ) → map.get names (directory, name) ≡ None)
  tells_empty directory is = (λ test name. absent test name (map.get names (directory, name)) refl, λ none. empty (zero_or_more n) none)
    where
      absent : IsTrue (nat_eq n 0) → (name : List ℕ) (file : Option FileId) → map.get names (directory, name) ≡ file → file ≡ None
      absent test name None there = refl
      absent test name (Some file) there =
          let some = some_inside names counts counted (directory, name) file there in
          let none = is_zero n test in
          absurd (omega (arith, some, none, is))

      empty : (nat_eq n 0 ≡ true) ⊎ (0 < n) → ((name : List ℕ) → map.get names (directory, name) ≡ None) → IsTrue (nat_eq n 0)
      empty (inl is) none = is
      empty (inr some) none =
          let one = name_in names counts counted directory (omega (arith, is)) in
          let clash : Some one.1 ≡ None = sym one.2 ∙ none one.0 in
          absurd cc

-- ---- two names

-- what a place has after another was put
module _ (names : FinMap place_cmp FileId) (put other : state.Place) (file of : FileId) where
  pub other_there : (eq_by_cmp place_cmp other put ≡ true → file ≡ of) → map.get names other ≡ Some of → map.get (map.insert (map.remove names put) put file) other ≡ Some of
  other_there same there =
      map.get-insert place_cmp_total (map.remove names put) put file other
      ∙ ap (cond (eq_by_cmp place_cmp other put) (Some file)) (map.get-remove place_cmp_total names put other)
      ∙ by (eq_by_cmp place_cmp other put) refl
    where
      by : (b : Bool) → eq_by_cmp place_cmp other put ≡ b → cond b (Some file) (cond b None (map.get names other)) ≡ Some of
      by true test = ap Some (same test)
      by false test = there
