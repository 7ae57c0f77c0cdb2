-- Marks: the first that is set, and how many are.
use Rattle.std.proofs.Common.{◌≡◌, ℕ, zero, suc, ◌+◌, ◌-◌, ◌<◌, ◌≤◌, ◌⊎◌, Bool, true, false, List, [], ◌∷◌, length, drop, get_or, set, Some, None, refl, sym, ap, subst, ◌∙◌, inl, inr, arith}
use Rattle.std.specs.Prelude.{slice_get, position}
use Rattle.std.proofs.lemmas.Bool.{cases_lt, cases_eq}
use Rattle.std.proofs.lemmas.Option.{slice_get_within, slice_get-get_or}
use Rattle.std.proofs.lemmas.List.{length-set, length-drop}
use Rattle.fa_capture.proofs.CallerLemmas.{get_set_same, get_set_other, get_from_drop, position_found, position_first, position_none}
use Rattle.fa_ledger.proofs.CallerLemmas.{element_at}
use Rattle.fa_check.specs.Marks.{IsSet, IsUnset, IsFirstSet, count_set}

-- ---- set or not

-- a mark is set or not
pub set_or_unset : (marks : List Bool) (k : ℕ) → k < length marks → IsSet marks k ⊎ IsUnset marks k
set_or_unset marks k below =
    let there = element_at marks k below in
    elim there.0 as (λ b. there.0 ≡ b → IsSet marks k ⊎ IsUnset marks k) [
      | true ↦ λ is. inl (there.1 ∙ ap (λ (b : Bool). Some b) is)
      | false ↦ λ is. inr (there.1 ∙ ap (λ (b : Bool). Some b) is)
    ] refl

-- and not both
pub not_both : (marks : List Bool) (k : ℕ) → IsSet marks k → IsUnset marks k → ⊥
not_both marks k is_set is_unset = absurd cc

-- what is read of a mark is how it is
pub mark_at : (marks : List Bool) (place : ℕ) (read mark : Bool) → place < length marks → read ≡ get_or marks place read → read ≡ mark → slice_get marks place ≡ Some mark
mark_at marks place read mark within is same = slice_get-get_or marks place read within ∙ ap (λ (b : Bool). Some b) (sym is ∙ same)

-- ---- the first that is set

pub first_at : (marks : List Bool) (place : ℕ) → position (λ is_set. is_set) marks ≡ Some place → IsFirstSet marks place
first_at marks place is =
    let found = position_found (λ (b : Bool). b) marks place is in
    let within : place < length marks = slice_get_within marks place found.0 found.1 in
    record {
      within = omega (arith, within);
      before = λ k below.
          let there = element_at marks k (omega (arith, within, below)) in
          there.1 ∙ ap (λ (b : Bool). Some b) (position_first (λ (b : Bool). b) marks place k there.0 is below there.1);
      there = λ _. found.1 ∙ ap (λ (b : Bool). Some b) found.2;
    }

-- none is
pub first_none : (marks : List Bool) → position (λ is_set. is_set) marks ≡ None → IsFirstSet marks (length marks)
first_none marks none = record {
  within = omega arith;
  before = λ k below.
      let there = element_at marks k below in
      there.1 ∙ ap (λ (b : Bool). Some b) (position_none (λ (b : Bool). b) marks k there.0 none there.1);
  there = λ below. absurd (omega (arith, below));
}

-- once a mark is taken away the first is found from where it was on
pub first_moves : (marks : List Bool) (first more place : ℕ) → IsFirstSet marks first → IsFirstSet (drop first (set marks place false)) more → place < length marks → IsFirstSet (set marks place false) (first + more)
first_moves marks first more place is rest within =
    let long = length-set marks place false in
    let left = length-drop first (set marks place false) in
    record {
      within = omega (arith, long, left, is.within, rest.within);
      before = λ k below. elim (cases_lt k first) [
        | inl under ↦ elim (cases_eq k place) [
          | inl same ↦ subst (λ (n : ℕ). IsUnset (set marks place false) n) (sym same) (get_set_same marks place false within)
          | inr other ↦ get_set_other marks place k false false other (is.before k under)
        ]
        | inr above ↦
            let there : k ≡ first + (k - first) = omega (arith, above) in
            subst (λ (n : ℕ). IsUnset (set marks place false) n) (sym there)
            (get_from_drop first (set marks place false) (k - first) false (rest.before (k - first) (omega (arith, below, above))))
      ];
      there = λ below. get_from_drop first (set marks place false) more true (rest.there (omega (arith, below, long, left)));
    }

-- ---- how many are set

-- no more than there are
pub count_within : (marks : List Bool) → count_set marks ≤ length marks
count_within [] = omega arith
count_within (true ∷ marks) = let rest = count_within marks in omega (arith, rest)
count_within (false ∷ marks) = let rest = count_within marks in omega (arith, rest)

-- fewer, where one is not
pub count_below : (marks : List Bool) (k : ℕ) → IsUnset marks k → count_set marks < length marks
count_below [] k is = absurd cc
count_below (true ∷ marks) zero is = absurd cc
count_below (false ∷ marks) zero is = let rest = count_within marks in omega (arith, rest)
count_below (true ∷ marks) (suc k) is = let rest = count_below marks k is in omega (arith, rest)
count_below (false ∷ marks) (suc k) is = let rest = count_below marks k is in omega (arith, rest)

-- one more, once it is
pub count_more : (marks : List Bool) (k : ℕ) → IsUnset marks k → count_set (set marks k true) ≡ count_set marks + 1
count_more [] k is = absurd cc
count_more (true ∷ marks) zero is = absurd cc
count_more (false ∷ marks) zero is = refl
count_more (true ∷ marks) (suc k) is = ap (λ n. n + 1) (count_more marks k is)
count_more (false ∷ marks) (suc k) is = count_more marks k is

-- none, where none is
pub count_none : (marks : List Bool) → ((k : ℕ) → IsSet marks k → ⊥) → count_set marks ≡ 0
count_none [] none = refl
count_none (true ∷ marks) none = absurd (none 0 refl)
count_none (false ∷ marks) none = count_none marks (λ k is. none (suc k) is)
