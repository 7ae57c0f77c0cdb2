-- After all entries: the least answered request that is left out, and how many unanswered ones are.
use Rattle.std.proofs.Common.{◌≡◌, ℕ, zero, suc, ◌+◌, ◌-◌, ◌<◌, ◌≤◌, Bool, true, false, List, [], ◌∷◌, length, get_or, Option, Some, None, refl, sym, ap, subst, ◌∙◌, inl, inr, arith}
use Rattle.std.specs.Prelude.{slice_get, Contains}
use Rattle.std.specs.List.Sorted.{IsStrictlyIncreasing}
use Rattle.std.proofs.lemmas.Bool.{cases_lt}
use Rattle.std.proofs.lemmas.List.Elements.{Contains-get_or}
use Rattle.std.proofs.lemmas.Option.{slice_get_within, same_Some}
use Rattle.fa_capture.specs.declared.codes.TheConstants.{ANSWERED_LEFT_OUT}
use Rattle.fa_capture.specs.Message.{Message}
use Rattle.fa_capture.proofs.CallerLemmas.{contains_cases, contains_first, contains_behind}
use Rattle.fa_session.specs.Answers.{IsAnsweredBy, IsUnanswered}
use Rattle.fa_ledger.specs.declared.calls.Calls.{Calls}
use Rattle.fa_ledger.specs.Calls.{PlainAnswer, PlainCall}
use Rattle.fa_tree.specs.State.{TreeState}
use Rattle.fa_order.specs.declared.entry.Entry.{Entry}
use Rattle.fa_check.specs.declared.placing.Placing.{Placing}
use Rattle.fa_check.specs.Orders.{IsTreeRequestAt, numbers}
use Rattle.fa_check.specs.Faults.{IsAnsweredUnplaced, IsOrderAtFault}
use Rattle.fa_check.specs.Verdicts.{AreMessagesOf, IsUnansweredUnplaced, Counts, IsLegalWith}
use Rattle.fa_check.specs.Marks.{IsUnset, count_set}
use Rattle.fa_check.specs.Replays.{IsCallOf, IsAnswerAt, IsReplayed}
use Rattle.fa_check.specs.parts.Placing.{IsLeastLeft}
use Rattle.fa_check.proofs.OrderLemmas.{valid_where_each_is_placed}
use Rattle.fa_check.proofs.MarkLemmas.{set_or_unset, not_both}
use Rattle.fa_check.proofs.MessageLemmas.{call_is_tree, tree_is_call, call_answered, call_unanswered, answered_call, asked_rise}

-- ---- the least that is left

-- among the first calls none that was answered is left
abbrev pub IsNoneLeft : List PlainCall → List Bool → ℕ → Type 0
IsNoneLeft calls marks n = (place q : ℕ) → place < n → IsAnswerAt calls place q → IsUnset marks place → ⊥

-- one more call that has no answer, or is placed
pub none_left_more : (calls : List PlainCall) (marks : List Bool) (n : ℕ) → ((q : ℕ) → IsAnswerAt calls n q → IsUnset marks n → ⊥) → IsNoneLeft calls marks n → IsNoneLeft calls marks (n + 1)
none_left_more calls marks n none so_far place q below answer left =
    elim (cases_lt place n) [
      | inl before ↦ so_far place q before answer left
      | inr behind ↦
          let here : place ≡ n = omega (arith, below, behind) in
          none q (subst (λ k. IsAnswerAt calls k q) here answer) (subst (IsUnset marks) here left)
    ]

-- all calls were looked at
pub none_left : (calls : List PlainCall) (marks : List Bool) (n : ℕ) → length calls ≤ n → IsNoneLeft calls marks n → IsLeastLeft calls marks None
none_left calls marks n all so_far = λ q waits.
    let within = slice_get_within calls waits.0 waits.1.0 waits.1.2 in
    so_far waits.0 q (omega (arith, within, all)) waits.1 waits.2

-- the first that is left is the least
pub first_left : (calls : List PlainCall) (marks : List Bool) (n : ℕ) (call : PlainCall) (answer : PlainAnswer) → ((i j : ℕ) (a b : PlainCall) → i < j → slice_get calls i ≡ Some a → slice_get calls j ≡ Some b → a.asked < b.asked)
    → slice_get calls n ≡ Some call → call.answer ≡ Some answer → IsUnset marks n → IsNoneLeft calls marks n → IsLeastLeft calls marks (Some call.asked)
first_left calls marks n call answer rise there has left so_far = (
  (n, answer.at, (call, there, refl), (call, answer, there, has, refl), left),
  (λ place q other stands answered open_there.
      elim (cases_lt place n) [
        | inl before ↦ absurd (so_far place q before answered open_there)
        | inr behind ↦ elim (cases_lt n place) [
          | inl after ↦ let rises = rise n place call other after there stands in omega (arith, rises)
          | inr near ↦
              let here : place ≡ n = omega (arith, behind, near) in
              let same : other ≡ call = same_Some other call (sym (subst (λ k. slice_get calls k ≡ Some other) here stands) ∙ there) in
              omega (arith, ap (λ (x : PlainCall). x.asked) same)
        ]
      ]),
)

-- ---- the numbers of those that are left

-- the numbers of the calls that are not placed
abbrev pub unplaced_numbers : List PlainCall → List Bool → List ℕ
unplaced_numbers [] marks = []
unplaced_numbers (call ∷ calls) [] = []
unplaced_numbers (call ∷ calls) (true ∷ marks) = unplaced_numbers calls marks
unplaced_numbers (call ∷ calls) (false ∷ marks) = call.asked ∷ unplaced_numbers calls marks

-- with those that are placed they are as many as the calls
pub unplaced_count : (calls : List PlainCall) (marks : List Bool) → length marks ≡ length calls → length (unplaced_numbers calls marks) + count_set marks ≡ length calls
unplaced_count [] [] long = refl
unplaced_count [] (m ∷ marks) long = absurd (omega (arith, long))
unplaced_count (call ∷ calls) [] long = absurd (omega (arith, long))
unplaced_count (call ∷ calls) (true ∷ marks) long = let rest = unplaced_count calls marks (omega (arith, long)) in omega (arith, rest)
unplaced_count (call ∷ calls) (false ∷ marks) long = let rest = unplaced_count calls marks (omega (arith, long)) in omega (arith, rest)

-- each is that of a call that is not placed
pub unplaced_call : (calls : List PlainCall) (marks : List Bool) (p : ℕ) → Contains (unplaced_numbers calls marks) p → (place : ℕ) × IsCallOf calls place p × IsUnset marks place
unplaced_call [] marks p has = absurd (omega (arith, has.1))
unplaced_call (call ∷ calls) [] p has = absurd (omega (arith, has.1))
unplaced_call (call ∷ calls) (true ∷ marks) p has =
    let found = unplaced_call calls marks p has in
    (suc found.0, (found.1.0, found.1.1, found.1.2), found.2)
unplaced_call (call ∷ calls) (false ∷ marks) p has =
    elim (contains_cases call.asked (unplaced_numbers calls marks) p has) [
      | inl here ↦ (0, (call, refl, here), refl)
      | inr later ↦ let found = unplaced_call calls marks p later in (suc found.0, (found.1.0, found.1.1, found.1.2), found.2)
    ]

-- and each call that is not placed has its number there
pub call_unplaced : (calls : List PlainCall) (marks : List Bool) (place : ℕ) (call : PlainCall) → slice_get calls place ≡ Some call → IsUnset marks place → Contains (unplaced_numbers calls marks) call.asked
call_unplaced [] marks place call there left = absurd cc
call_unplaced (x ∷ calls) [] place call there left = absurd cc
call_unplaced (x ∷ calls) (true ∷ marks) zero call there left = absurd cc
call_unplaced (x ∷ calls) (true ∷ marks) (suc place) call there left = call_unplaced calls marks place call there left
call_unplaced (x ∷ calls) (false ∷ marks) zero call there left =
    let same : x ≡ call = same_Some x call there in
    subst (λ (y : PlainCall). Contains (x.asked ∷ unplaced_numbers calls marks) y.asked) same (contains_first x.asked (unplaced_numbers calls marks))
call_unplaced (x ∷ calls) (false ∷ marks) (suc place) call there left = contains_behind x.asked (unplaced_numbers calls marks) call.asked (call_unplaced calls marks place call there left)

-- they rise
pub cons_rises : (x : ℕ) (xs : List ℕ) → IsStrictlyIncreasing xs → ((z : ℕ) → Contains xs z → x < z) → IsStrictlyIncreasing (x ∷ xs)
cons_rises x xs rise above zero within = above (get_or xs 0 0) (Contains-get_or xs 0 0 (omega (arith, within)))
cons_rises x xs rise above (suc k) within =
    let next : suc k + 1 ≡ suc (k + 1) = omega arith in
    rw next (rise k (omega (arith, within)))

pub unplaced_rise : (calls : List PlainCall) (marks : List Bool) → ((i j : ℕ) (a b : PlainCall) → i < j → slice_get calls i ≡ Some a → slice_get calls j ≡ Some b → a.asked < b.asked) → IsStrictlyIncreasing (unplaced_numbers calls marks)
unplaced_rise [] marks rise = λ k within. absurd (omega (arith, within))
unplaced_rise (call ∷ calls) [] rise = λ k within. absurd (omega (arith, within))
unplaced_rise (call ∷ calls) (true ∷ marks) rise = unplaced_rise calls marks (λ i j a b before first second. rise (suc i) (suc j) a b (omega (arith, before)) first second)
unplaced_rise (call ∷ calls) (false ∷ marks) rise =
    cons_rises call.asked (unplaced_numbers calls marks) (unplaced_rise calls marks (λ i j a b before first second. rise (suc i) (suc j) a b (omega (arith, before)) first second))
    (λ z has.
    let found = unplaced_call calls marks z has in
    let above = rise 0 (suc found.0) call found.1.0 (omega arith) refl found.1.1 in
    omega (arith, above, found.1.2))

-- ---- after entries that were replayed

module _ (calls : Calls) (first last : TreeState) (es : List Entry) (s : Placing) (so_far : IsReplayed calls first last es s) (c : List Message) (is : AreMessagesOf calls c) where
  -- a call that is not placed is in no entry
  left_apart : (place p : ℕ) → IsCallOf calls.list place p → IsUnset s.marks.items place → Contains (numbers es) p → ⊥
  left_apart place p found left there =
      not_both s.marks.items place ((so_far.placed.exact place found.0 found.1).1 (subst (Contains (numbers es)) (sym found.2) there)) left

  -- and one that is in no entry is not placed
  apart_left : (place p : ℕ) → IsCallOf calls.list place p → (Contains (numbers es) p → ⊥) → IsUnset s.marks.items place
  apart_left place p found apart =
      let within = slice_get_within calls.list place found.0 found.1 in
      elim (set_or_unset s.marks.items place (omega (arith, within, so_far.shape.sized))) [
        | inl is_set ↦ absurd (apart (subst (Contains (numbers es)) found.2 ((so_far.placed.exact place found.0 found.1).0 is_set)))
        | inr is_unset ↦ is_unset
      ]

  -- an answered tree request that is left out is a call that is not placed
  left_call : (p : ℕ) → IsAnsweredUnplaced c es p → (place q : ℕ) × IsCallOf calls.list place p × IsAnswerAt calls.list place q × IsUnset s.marks.items place
  left_call p unplaced =
      let found = tree_is_call c calls.list is.are p unplaced.0 in
      let answered : IsAnsweredBy c found.1.0.asked unplaced.1.0 = subst (λ n. IsAnsweredBy c n unplaced.1.0) (sym found.1.2) unplaced.1.1 in (
        found.0,
        unplaced.1.0,
        found.1,
        answered_call c calls.list is.are found.0 found.1.0 unplaced.1.0 found.1.1 answered,
        apart_left found.0 p found.1 unplaced.2,
      )

  -- an answered tree request is left out
  pub left_out : (at : ℕ) → IsLeastLeft calls.list s.marks.items (Some at) → IsOrderAtFault c first es s.count at ANSWERED_LEFT_OUT
  left_out at least =
      let before = so_far.run c is in
      let place = least.0.0 in
      let found = least.0.2 in
      let answer = least.0.3 in
      let answered = call_answered c calls.list is.are place answer.0 answer.1 answer.2 answer.3 in
      let asked : answer.0.asked ≡ at = ap (λ (x : PlainCall). x.asked) (same_Some answer.0 found.0 (sym answer.2 ∙ found.1)) ∙ found.2 in
      inr (record {
        tree = last;
        placed = before.0;
        run = before.1;
        number = so_far.counted;
        told = refl;
        left_out = (
          subst (IsTreeRequestAt c) found.2 (call_is_tree c calls.list is.are place found.0 found.1),
          (answer.1.at, subst (λ n. IsAnsweredBy c n answer.1.at) asked answered),
          left_apart place at found least.0.4,
        );
        least = λ p unplaced.
            let other = left_call p unplaced in
            let under = least.1 other.0 other.1 other.2.0 other.2.1 other.3 other.4 in
            omega (arith, under, other.2.2);
      })

  -- where none is, what is left out was not answered
  left_unanswered : IsLeastLeft calls.list s.marks.items None → (place : ℕ) (call : PlainCall) → slice_get calls.list place ≡ Some call → IsUnset s.marks.items place → IsUnanswered c call.asked
  left_unanswered none place call there left = by call.answer refl
    where
      by : (answer : Option PlainAnswer) → call.answer ≡ answer → IsUnanswered c call.asked
      by None has = call_unanswered c calls.list is.are place call there has
      by (Some answer) has = absurd (none answer.at (place, (call, answer, there, has, refl), left))

  -- so many are
  left_counted : IsLeastLeft calls.list s.marks.items None → Counts (IsUnansweredUnplaced c es) (length calls.list - s.count)
  left_counted none = record {
    all = unplaced_numbers calls.list s.marks.items;
    rising = unplaced_rise calls.list s.marks.items (asked_rise c calls.list is.are);
    each = λ p has.
        let found = unplaced_call calls.list s.marks.items p has in (
          subst (IsTreeRequestAt c) found.1.2 (call_is_tree c calls.list is.are found.0 found.1.0 found.1.1),
          subst (IsUnanswered c) found.1.2 (left_unanswered none found.0 found.1.0 found.1.1 found.2),
          left_apart found.0 p found.1 found.2,
        );
    complete = λ p unplaced.
        let found = tree_is_call c calls.list is.are p unplaced.0 in
        subst (Contains (unplaced_numbers calls.list s.marks.items)) found.1.2
        (call_unplaced calls.list s.marks.items found.0 found.1.0 found.1.1 (apart_left found.0 p found.1 unplaced.2));
    number =
        let whole = unplaced_count calls.list s.marks.items so_far.shape.sized in
        omega (arith, whole, so_far.shape.counted);
  }

  -- all answered tree requests are placed
  pub all_placed : IsLeastLeft calls.list s.marks.items None → IsLegalWith c first es calls.messages s.count (length calls.list - s.count)
  all_placed none =
      let before = so_far.run c is in
      record {
        legal = record {
          good = is.good;
          valid = (valid_where_each_is_placed c es).1 (before.0, (λ p unplaced. let left = left_call p unplaced in none left.1 (left.0, left.3, left.4)));
          last = last;
          run = before.1;
        };
        messages_are = is.counted;
        placed_are = so_far.counted;
        left_are = left_counted none;
      }
