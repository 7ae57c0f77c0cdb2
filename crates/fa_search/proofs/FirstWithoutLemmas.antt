-- The message with which the first messages have no order any more.
use Rattle.std.proofs.Common.{ℕ, zero, suc, ◌+◌, ◌<◌, ◌≤◌, List, [], length, take, subst, inl, inr, sym, arith}
use Rattle.std.proofs.lemmas.Bool.{cases_lt}
use Rattle.std.proofs.lemmas.List.{take-take, take_all}
use Rattle.fa_capture.specs.Message.{Message}
use Rattle.fa_tree.specs.State.{TreeState}
use Rattle.fa_order.specs.declared.entry.Entry.{Entry}
use Rattle.fa_check.specs.Runs.{HasOrder}
use Rattle.fa_check.proofs.CallerLemmas.{cut_is_there, explained_is_legal_cut, explains_all_is_legal, no_order_stays}
use Rattle.fa_search.specs.Searches.{HasNoOrder, IsFirstWithout}
use Rattle.fa_search.specs.Laws.{ExplainedFrontHasOrder, NoneGoesOn, FirstWithoutIsOne, FirstWithoutIsThere, StopComesFirst}
use Rattle.fa_search.proofs.StopLemmas.{explains_nothing, explains_earlier}

pub explained_front_has_order : ExplainedFrontHasOrder
explained_front_has_order c first m es good explained none =
    cut_is_there c m es good (λ cut is. none (cut, explained_is_legal_cut c first es cut m good explained is))

pub none_goes_on : NoneGoesOn
none_goes_on c first m n before none =
    no_order_stays (take n c) first m (subst (λ (front : List Message). HasNoOrder front first) (sym (take-take m n c before)) none)

-- of two messages with which none is left, none comes before the other
without_not_before : (c : List Message) (first : TreeState) (at other : ℕ) → IsFirstWithout c first at → IsFirstWithout c first other → at < other → ⊥
without_not_before c first at other one two before = none_goes_on c first (at + 1) other (omega (arith, before)) one.none two.before

pub first_without_is_one : FirstWithoutIsOne
first_without_is_one c first at other one two =
    elim (cases_lt at other) [
      | inl before ↦ absurd (without_not_before c first at other one two before)
      | inr far ↦ elim (cases_lt other at) [
        | inl behind ↦ absurd (without_not_before c first other at two one behind)
        | inr near ↦ omega (arith, far, near)
      ]
    ]

-- no messages have an order
none_have_order : (first : TreeState) → HasOrder [] first
none_have_order first = ([], explains_all_is_legal [] first [] (λ i m below. absurd (omega (arith, below))) (explains_nothing [] first))

-- without such a message, the messages before each have an order
never_without : (c : List Message) (first : TreeState) → ((at : ℕ) → IsFirstWithout c first at → ⊥) → (n : ℕ) → n ≤ length c → HasNoOrder (take n c) first → ⊥
never_without c first never zero within none = none (none_have_order first)
never_without c first never (suc n) within none =
    never_without c first never n (omega (arith, within)) (λ order.
    never n (record {
      within = omega (arith, within);
      before = order;
      none = none_goes_on c first (suc n) (n + 1) (omega arith) none;
    }))

pub first_without_is_there : FirstWithoutIsThere
first_without_is_there c first none never =
    never_without c first never (length c) (omega arith) (subst (λ (all : List Message). HasNoOrder all first) (sym (take_all (length c) c (omega arith))) none)

pub stop_comes_first : StopComesFirst
stop_comes_first c first stop at stops without =
    elim (cases_lt at stop) [
      | inl before ↦
          let es : List Entry = stops.before.0 in
          absurd (explained_front_has_order c first (at + 1) es stops.good (explains_earlier c first (at + 1) stop es (omega (arith, before)) stops.before.1) without.none)
      | inr behind ↦ behind
    ]
