-- Entries by the ranks of their calls, that of the least rank apart: they stay in order.
use Rattle.std.proofs.Common.{◌≡◌, ℕ, ◌<◌, false, cond, [], ◌∷◌, ◌++◌, zero, suc, Bool, true, length, Ordering, Less, Equal, Greater, Option, Some, None, refl, sym, ap, subst, ◌∙◌, arith}
use Rattle.std.specs.Prelude.{IsSome, IfSome}
use Rattle.std.specs.BTreeMap.{BTreeMap, insert_entry, is_at}
use Rattle.std.specs.List.Sorted.{IsStrictlySortedBy}
use Rattle.std.specs.Map.{keys_of, remove_entry}
use Rattle.std.specs.Ordering.{is_eq, is_ne, match_ordering}
use Rattle.std.proofs.lemmas.Bool.{true≢false}
use Rattle.std.proofs.lemmas.List.{nil_from_length}
use Rattle.std.proofs.lemmas.Map.Keys.{sorted_tail}
use Rattle.fa_order.specs.declared.entry.Entry.{Entry}
use Rattle.fa_propose.specs.declared.candidates.Candidates.TheInside.{Inside}
use Rattle.fa_propose.specs.declared.rank.Rank.{Rank}
use Rattle.fa_propose.specs.parts.Candidates.{cmp, first_entry, candidates_shown, IsFirstApart}
use Rattle.fa_propose.proofs.EntryLemmas.{sorted_inserted, sorted_removed, inserted_first}
use Rattle.fa_propose.proofs.RankOrderLemmas.{cmp_total}

-- nothing is no entry
nothing_is_none : (first : Rank × Entry) → ◌≡◌ {A = Option (Rank × Entry)} None (Some first) → ⊥
nothing_is_none first is = absurd cc

-- what is not equal is not at the place
pub not_at : (r : Ordering) → is_ne r ≡ true → is_eq r ≡ false
not_at Less other = refl
not_at Equal other = absurd (let clash = other in cc)
not_at Greater other = refl

-- the first and the others
shown_with : (c : Inside) (first : Rank × Entry) → c.first ≡ Some first → candidates_shown c ≡ first ∷ c.others.entries
shown_with c first is = ap (λ (f : Option (Rank × Entry)). first_entry f ++ c.others.entries) is

-- none at all
shown_without : (c : Inside) → IsFirstApart c → c.first ≡ None → candidates_shown c ≡ []
shown_without c are none = ap (λ (f : Option (Rank × Entry)). first_entry f ++ c.others.entries) none ∙ are.alone none

module _ (o : Inside) (are : IsFirstApart o) where
  -- the others alone are in order
  others_ordered : (first : Rank × Entry) → o.first ≡ Some first → IsStrictlySortedBy cmp (keys_of o.others.entries)
  others_ordered first is = sorted_tail cmp first.0 (keys_of o.others.entries) (subst (λ es. IsStrictlySortedBy cmp (keys_of es)) (shown_with o first is) are.ordered)

  -- ---- an entry is put in

  module _ (rank : Rank) (entry : Entry) where
    -- before the first, which comes to the others
    pub shown_before : (first : Rank × Entry) → o.first ≡ Some first → cmp rank first.0 ≡ Less → (n : BTreeMap Rank Entry) → n.entries ≡ insert_entry cmp o.others.entries first.0 first.1
        → (rank, entry) ∷ n.entries ≡ insert_entry cmp (candidates_shown o) rank entry
    shown_before first is less n others =
        let sorted = subst (λ es. IsStrictlySortedBy cmp (keys_of es)) (shown_with o first is) are.ordered in
        ap (λ es. (rank, entry) ∷ es) (others ∙ inserted_first cmp first.0 first.1 o.others.entries sorted)
        ∙ ap (λ r. match_ordering r ((rank, entry) ∷ first ∷ o.others.entries) ((first.0, entry) ∷ o.others.entries) (first ∷ insert_entry cmp o.others.entries rank entry)) (sym less)
        ∙ ap (λ es. insert_entry cmp es rank entry) (sym (shown_with o first is))

    module _ (p : Inside) where
      -- they are in order
      inserted_apart : (first : Rank × Entry) → p.first ≡ Some first → candidates_shown p ≡ insert_entry cmp (candidates_shown o) rank entry → IsFirstApart p
      inserted_apart first some shown = record {
        alone = λ none. absurd (nothing_is_none first (sym none ∙ some));
        ordered = subst (λ es. IsStrictlySortedBy cmp (keys_of es)) (sym shown) (sorted_inserted cmp cmp_total rank entry (candidates_shown o) are.ordered);
      }

      -- where there is none
      pub inserted_alone : o.first ≡ None → p.first ≡ Some (rank, entry) → p.others ≡ o.others → IsFirstApart p
      inserted_alone none first others =
          inserted_apart (rank, entry) first
          (shown_with p (rank, entry) first ∙ ap (λ m. (rank, entry) ∷ m.entries) others ∙ ap (λ es. (rank, entry) ∷ es) (are.alone none)
          ∙ ap (λ es. insert_entry cmp es rank entry) (sym (shown_without o are none)))

      -- before the first
      pub inserted_before : (first : Rank × Entry) → o.first ≡ Some first → cmp rank first.0 ≡ Less → p.first ≡ Some (rank, entry)
          → p.others.entries ≡ insert_entry cmp o.others.entries first.0 first.1 → IsFirstApart p
      inserted_before first is less now others =
          inserted_apart (rank, entry) now (shown_with p (rank, entry) now ∙ shown_before first is less p.others others)

      -- behind the first, among the others
      pub inserted_behind : (first : Rank × Entry) → o.first ≡ Some first → cmp rank first.0 ≡ Greater → p.first ≡ o.first
          → p.others.entries ≡ insert_entry cmp o.others.entries rank entry → IsFirstApart p
      inserted_behind first is greater same others =
          inserted_apart first (same ∙ is)
          (shown_with p first (same ∙ is) ∙ ap (λ es. first ∷ es) others
          ∙ ap (λ r. match_ordering r ((rank, entry) ∷ first ∷ o.others.entries) ((first.0, entry) ∷ o.others.entries) (first ∷ insert_entry cmp o.others.entries rank entry)) (sym greater)
          ∙ ap (λ es. insert_entry cmp es rank entry) (sym (shown_with o first is)))

  -- ---- one is taken away

  module _ (p : Inside) where
    -- one of the others
    pub removed_other : (rank : Rank) (first : Rank × Entry) → o.first ≡ Some first → is_at (cmp rank) first.0 ≡ false → p.first ≡ o.first
        → p.others.entries ≡ remove_entry (is_at (cmp rank)) o.others.entries → IsFirstApart p
    removed_other rank first is off same others =
        let shown : candidates_shown p ≡ remove_entry (is_at (cmp rank)) (candidates_shown o) =
        shown_with p first (same ∙ is) ∙ ap (λ es. first ∷ es) others
        ∙ ap (λ b. cond b o.others.entries (first ∷ remove_entry (is_at (cmp rank)) o.others.entries)) (sym off)
        ∙ ap (λ es. remove_entry (is_at (cmp rank)) es) (sym (shown_with o first is)) in
        record {
          alone = λ none. absurd (nothing_is_none first (sym none ∙ same ∙ is));
          ordered = subst (λ es. IsStrictlySortedBy cmp (keys_of es)) (sym shown) (sorted_removed cmp (is_at (cmp rank)) (candidates_shown o) are.ordered);
        }

    -- the first, and there are no others
    pub removed_last : (first : Rank × Entry) → o.first ≡ Some first → p.first ≡ None → p.others ≡ o.others → length o.others.entries ≡ 0 → IsFirstApart p
    removed_last first is none others empty = record {
      alone = λ gone. ap (λ m. m.entries) others ∙ nil_from_length o.others.entries empty;
      ordered = subst (λ es. IsStrictlySortedBy cmp (keys_of es)) (sym (ap (λ (f : Option (Rank × Entry)). first_entry f ++ p.others.entries) none ∙ ap (λ m. m.entries) others)) (others_ordered first is);
    }

    -- the first, and the least of the others takes its place
    pub removed_first : (first : Rank × Entry) → o.first ≡ Some first → (b : Bool) → (length o.others.entries ≡ 0 → b ≡ true) → b ≡ false → (0 < length o.others.entries → IsSome p.first)
        → IfSome p.first (λ next. o.others.entries ≡ next ∷ p.others.entries) → IsFirstApart p
    removed_first first is b empty not there next = by p.first refl (there (some (length o.others.entries) empty)) next
      where
        some : (n : ℕ) → (n ≡ 0 → b ≡ true) → 0 < n
        some zero empty = absurd (true≢false (sym (empty refl) ∙ not))
        some (suc n) empty = omega arith

        by : (f : Option (Rank × Entry)) → p.first ≡ f → IsSome f → IfSome f (λ next. o.others.entries ≡ next ∷ p.others.entries) → IsFirstApart p
        by None none found parts = absurd (let clash = found in cc)
        by (Some second) now found parts = record {
          alone = λ none. absurd (nothing_is_none second (sym none ∙ now));
          ordered = subst (λ es. IsStrictlySortedBy cmp (keys_of es)) (parts ∙ sym (shown_with p second now)) (others_ordered first is);
        }
