-- One more entry: the checks of its place by calls are those by messages, and what is replayed goes on.
use Rattle.std.proofs.Common.{◌≡◌, ℕ, ◌+◌, ◌<◌, ◌≤◌, Bool, true, List, [], ◌∷◌, ◌++◌, length, set, Option, Some, None, refl, sym, ap, subst, ◌∙◌, inl, inr, arith}
use Rattle.std.specs.Prelude.{slice_get, Contains}
use Rattle.std.proofs.lemmas.Bool.{cases_lt, cases_eq}
use Rattle.std.proofs.lemmas.List.{length-append}
use Rattle.std.proofs.lemmas.Option.{slice_get_within, same_Some}
use Rattle.fa_capture.specs.declared.codes.TheConstants.{CHOICE_NOT_ALLOWED}
use Rattle.fa_capture.specs.Checks.{FirstFailure, AllHold}
use Rattle.fa_capture.specs.Message.{Message}
use Rattle.fa_capture.proofs.CallerLemmas.{get_set_same, get_set_other, get_set_back, snoc_cases}
use Rattle.fa_session.specs.Answers.{IsRequestAt, IsAnsweredBy, IsUnanswered}
use Rattle.fa_ledger.specs.declared.calls.Calls.{Calls}
use Rattle.fa_ledger.specs.Calls.{PlainAnswer, PlainCall, AreCalls}
use Rattle.fa_ledger.specs.Choices.{Allows, AllowsBy, MayBePlaced}
use Rattle.fa_ledger.specs.Operations.{PlainOperation, operation_of}
use Rattle.fa_ledger.specs.SoFar.{listing_so_far}
use Rattle.fa_tree.specs.State.{TreeState}
use Rattle.fa_tree.specs.Steps.{OfCallAt, Steps, step_checks}
use Rattle.fa_tree.specs.Refusals.{TellsOf}
use Rattle.fa_tree.specs.declared.error.StepError.{StepError}
use Rattle.fa_tree.specs.declared.error.StepError.TheVariants.{Refused, Memory}
use Rattle.fa_order.specs.declared.entry.Entry.{Entry}
use Rattle.fa_check.specs.declared.placing.Placing.{Placing}
use Rattle.fa_check.specs.Orders.{IsTreeRequestAt, numbers, IsChoice}
use Rattle.fa_check.specs.Runs.{EntrySteps}
use Rattle.fa_check.specs.Faults.{order_checks, EachPlaced}
use Rattle.fa_check.specs.Marks.{IsSet, IsUnset}
use Rattle.fa_check.specs.Replays.{IsCallOf, IsAnswerAt, AnswersUnplaced, IsPlacing, ArePlaced, IsReplayed, NextFails}
use Rattle.fa_check.specs.parts.Placing.{place_checks}
use Rattle.fa_check.proofs.OrderLemmas.{number_more, number_still, number_now}
use Rattle.fa_check.proofs.RunLemmas.{run_more}
use Rattle.fa_check.proofs.MarkLemmas.{set_or_unset, not_both}
use Rattle.fa_check.proofs.MessageLemmas.{call_is_tree, tree_is_call, call_undone, call_answered, call_unanswered, answered_call, call_of_message}

-- ---- the choice of an entry

module _ (c : List Message) (calls : List PlainCall) (are : AreCalls c calls) (e : Entry) where
  -- its choice is allowed
  pub allowed_choice : (place : ℕ) (call : PlainCall) → slice_get calls place ≡ Some call → call.asked ≡ e.at → Allows call e.wrote → IsChoice c e
  allowed_choice place call there asked allowed = by call.answer refl
    where
      by : (answer : Option PlainAnswer) → call.answer ≡ answer → IsChoice c e
      by None is =
          let free : IsUnanswered c e.at = subst (IsUnanswered c) asked (call_unanswered c calls are place call there is) in
          let may : MayBePlaced call.operation e.wrote = subst (λ a. AllowsBy a call.operation e.wrote) is allowed in
          record {
            answered = λ q answered. absurd (free q answered);
            unanswered = λ o waits.
                let r = waits.1.0 in
                let sent = waits.1.1 in
                let made = waits.1.2 in
                let own : operation_of r.body None ≡ Some call.operation = call_undone c calls are place call r there is (subst (λ n. IsRequestAt c n r) (sym asked) sent) in
                subst (λ (x : PlainOperation). MayBePlaced x e.wrote) (same_Some call.operation o (sym own ∙ made)) may;
          }
      by (Some answer) is =
          let none : e.wrote ≡ None = subst (λ a. AllowsBy a call.operation e.wrote) is allowed in
          let by_answer : IsAnsweredBy c e.at answer.at = subst (λ n. IsAnsweredBy c n answer.at) asked (call_answered c calls are place call answer there is) in
          record { answered = λ q answered. none; unanswered = λ o waits. absurd (waits.0 answer.at by_answer) }

  pub choice_allowed : IsChoice c e → (place : ℕ) (call : PlainCall) → slice_get calls place ≡ Some call → call.asked ≡ e.at → Allows call e.wrote
  choice_allowed choice place call there asked = by call.answer refl
    where
      by : (answer : Option PlainAnswer) → call.answer ≡ answer → AllowsBy call.answer call.operation e.wrote
      by None is =
          let free : IsUnanswered c e.at = subst (IsUnanswered c) asked (call_unanswered c calls are place call there is) in
          let tree = call_is_tree c calls are place call there in
          subst (λ a. AllowsBy a call.operation e.wrote) (sym is)
          (choice.unanswered call.operation (free, (tree.0, subst (λ n. IsRequestAt c n tree.0) asked tree.1, call_undone c calls are place call tree.0 there is tree.1)))
      by (Some answer) is =
          let by_answer : IsAnsweredBy c e.at answer.at = subst (λ n. IsAnsweredBy c n answer.at) asked (call_answered c calls are place call answer there is) in
          subst (λ a. AllowsBy a call.operation e.wrote) (sym is) (choice.answered answer.at by_answer)

-- ---- the checks of an entry's place

module _ (c : List Message) (calls : List PlainCall) (are : AreCalls c calls) (es : List Entry) (marks : List Bool) (placed : ArePlaced calls es marks) (sized : length marks ≡ length calls) (e : Entry) where
  -- a call has its number
  asked_tree : (place : ℕ) × IsCallOf calls place e.at → IsTreeRequestAt c e.at
  asked_tree found = subst (IsTreeRequestAt c) found.1.2 (call_is_tree c calls are found.0 found.1.0 found.1.1)

  -- it is not placed
  unplaced_apart : ((place : ℕ) → IsCallOf calls place e.at → IsUnset marks place) → Contains (numbers es) e.at → ⊥
  unplaced_apart left there =
      let found = placed.known e.at there in
      not_both marks found.0 ((placed.exact found.0 found.1.0 found.1.1).1 (subst (Contains (numbers es)) (sym found.1.2) there)) (left found.0 found.1)

  apart_unplaced : (Contains (numbers es) e.at → ⊥) → (place : ℕ) → IsCallOf calls place e.at → IsUnset marks place
  apart_unplaced apart place found =
      let within : place < length calls = slice_get_within calls place found.0 found.1 in
      elim (set_or_unset marks place (omega (arith, within, sized))) [
        | inl is_set ↦ absurd (apart (subst (Contains (numbers es)) found.2 ((placed.exact place found.0 found.1).0 is_set)))
        | inr is_unset ↦ is_unset
      ]

  -- each that was answered before its request was sent is placed
  pub waits_placed : ((q : ℕ) → AnswersUnplaced calls marks q → e.at ≤ q) → (p q : ℕ) → IsTreeRequestAt c p → IsAnsweredBy c p q → q < e.at → Contains (numbers es) p
  waits_placed late p q tree answered before =
      let found = tree_is_call c calls are p tree in
      let within : found.0 < length calls = slice_get_within calls found.0 found.1.0 found.1.1 in
      let answer : IsAnswerAt calls found.0 q = answered_call c calls are found.0 found.1.0 q found.1.1 (subst (λ n. IsAnsweredBy c n q) (sym found.1.2) answered) in
      elim (set_or_unset marks found.0 (omega (arith, within, sized))) [
        | inl is_set ↦ subst (Contains (numbers es)) found.1.2 ((placed.exact found.0 found.1.0 found.1.1).0 is_set)
        | inr is_unset ↦ absurd (let above = late q (found.0, answer, is_unset) in omega (arith, above, before))
      ]

  placed_waits : ((p q : ℕ) → IsTreeRequestAt c p → IsAnsweredBy c p q → q < e.at → Contains (numbers es) p) → (q : ℕ) → AnswersUnplaced calls marks q → e.at ≤ q
  placed_waits every q waits =
      elim (cases_lt q e.at) [
        | inl before ↦
            let call = waits.1.0 in
            let answered : IsAnsweredBy c call.asked q = subst (IsAnsweredBy c call.asked) waits.1.4 (call_answered c calls are waits.0 call waits.1.1 waits.1.2 waits.1.3) in
            let there = every call.asked q (call_is_tree c calls are waits.0 call waits.1.2) answered before in
            absurd (not_both marks waits.0 ((placed.exact waits.0 call waits.1.2).1 there) waits.2)
        | inr behind ↦ behind
      ]

  -- all checks hold by messages where they hold by calls
  pub hold_order : AllHold (place_checks calls marks e) → AllHold (order_checks c es e)
  hold_order hold =
      let found = hold.0 in (
        asked_tree found,
        (unplaced_apart hold.1.0, (waits_placed hold.1.1.0, (allowed_choice c calls are e found.0 found.1.0 found.1.1 found.1.2 (hold.1.1.1.0 found.0 found.1.0 found.1.1 found.1.2), tt))),
      )

  -- and the first that fails is the same
  fail_choice : (place : ℕ) × IsCallOf calls place e.at → (code : ℕ)
      → FirstFailure ((CHOICE_NOT_ALLOWED, (place : ℕ) (call : PlainCall) → slice_get calls place ≡ Some call → call.asked ≡ e.at → Allows call e.wrote) ∷ []) code
      → FirstFailure ((CHOICE_NOT_ALLOWED, IsChoice c e) ∷ []) code
  fail_choice found code fails =
      elim fails [
        | inl here ↦ inl ((λ choice. here.0 (choice_allowed c calls are e choice)), here.1)
        | inr later ↦ absurd later.1
      ]

  pub fail_order : (code : ℕ) → FirstFailure (place_checks calls marks e) code → FirstFailure (order_checks c es e) code
  fail_order code fails =
      elim fails [
        | inl here ↦ inl ((λ tree. here.0 (tree_is_call c calls are e.at tree)), here.1)
        | inr later ↦ inr (
          asked_tree later.0,
          (elim later.1 [
            | inl here ↦ inl ((λ apart. here.0 (apart_unplaced apart)), here.1)
            | inr more ↦ inr (
              unplaced_apart more.0,
              (elim more.1 [
                | inl here ↦ inl ((λ every. here.0 (placed_waits every)), here.1)
                | inr last ↦ inr (waits_placed last.0, fail_choice later.0 code last.1)
              ]),
            )
          ]),
        )
      ]

-- ---- the next entry fails

-- at its place
pub place_fails : (calls : Calls) (tree : TreeState) (e : Entry) (s : Placing) (code : ℕ) → FirstFailure (place_checks calls.list s.marks.items e) code → NextFails calls tree e s (Refused code)
place_fails calls tree e s code fails first es so_far c is =
    inl (fail_order c calls.list is.are es s.marks.items so_far.placed so_far.shape.sized e code fails)

-- in its step
pub step_fails : (calls : Calls) (tree : TreeState) (e : Entry) (s : Placing) (place : ℕ) (error : StepError) → IsCallOf calls.list place e.at
    → AllHold (place_checks calls.list s.marks.items e)
    → OfCallAt calls.list place (λ call. TellsOf error call (step_checks tree call e.wrote (listing_so_far calls.list place)))
    → NextFails calls tree e s error
step_fails calls tree e s place Memory found hold tells = tt
step_fails calls tree e s place (Refused code) found hold tells = λ first es so_far c is.
    let plain = calls.list in
    inr (
      hold_order c plain is.are es s.marks.items so_far.placed so_far.shape.sized e hold,
      record {
        call = found.0;
        so_far = listing_so_far plain place;
        of_request = call_of_message c plain is.are place e.at found.0 found.1 found.2;
        fails = tells found.0 found.1;
      },
    )

-- ---- the next entry is placed

-- the calls that are placed
placed_more : (calls : List PlainCall) (es : List Entry) (marks : List Bool) (e : Entry) (place : ℕ) → ((i j : ℕ) (a b : PlainCall) → slice_get calls i ≡ Some a → slice_get calls j ≡ Some b → a.asked ≡ b.asked → i ≡ j)
    → length marks ≡ length calls → IsCallOf calls place e.at → ArePlaced calls es marks → ArePlaced calls (es ++ e ∷ []) (set marks place true)
placed_more calls es marks e place one sized found so_far =
    let within : place < length calls = slice_get_within calls place found.0 found.1 in
    record {
      exact = λ k call there. elim (cases_eq k place) [
        | inl same ↦
            let stands : slice_get calls place ≡ Some call = subst (λ n. slice_get calls n ≡ Some call) same there in
            let number : e.at ≡ call.asked = sym found.2 ∙ ap (λ (x : PlainCall). x.asked) (same_Some found.0 call (sym found.1 ∙ stands)) in (
              (λ is. subst (Contains (numbers (es ++ e ∷ []))) number (number_now es e)),
              (λ has. subst (IsSet (set marks place true)) (sym same) (get_set_same marks place true (omega (arith, within, sized)))),
            )
        | inr other ↦ (
          (λ is. number_still es e call.asked ((so_far.exact k call there).0 (get_set_back marks place k true true other is))),
          (λ has. elim (number_more es e call.asked has) [
            | inl before ↦ get_set_other marks place k true true other ((so_far.exact k call there).1 before)
            | inr here ↦ absurd (other (one k place call found.0 there found.1 (sym here ∙ sym found.2)))
          ]),
        )
      ];
      known = λ p has. elim (number_more es e p has) [
        | inl before ↦ so_far.known p before
        | inr here ↦ (place, (found.0, found.1, found.2 ∙ here))
      ];
    }

-- each entry is placed
pub each_more : (c : List Message) (es : List Entry) (e : Entry) → EachPlaced c es → AllHold (order_checks c es e) → EachPlaced c (es ++ e ∷ [])
each_more c es e each hold earlier later f same =
    elim (snoc_cases es earlier later e f same) [
      | inl last ↦ subst (λ xs. AllHold (order_checks c xs f)) (sym last.0) (subst (λ (x : Entry). AllHold (order_checks c es x)) (sym last.1) hold)
      | inr inner ↦ each earlier inner.0 f inner.1
    ]

-- and is a step
pub replayed_more : (calls : Calls) (first tree new : TreeState) (es : List Entry) (e : Entry) (s t : Placing) (place : ℕ)
    → ((i j : ℕ) (a b : PlainCall) → slice_get calls.list i ≡ Some a → slice_get calls.list j ≡ Some b → a.asked ≡ b.asked → i ≡ j)
    → IsCallOf calls.list place e.at → AllHold (place_checks calls.list s.marks.items e)
    → OfCallAt calls.list place (λ call. Steps tree new call e.wrote (listing_so_far calls.list place))
    → IsPlacing calls.list calls.messages t → t.marks.items ≡ set s.marks.items place true → t.count ≡ s.count + 1
    → IsReplayed calls first tree es s → IsReplayed calls first new (es ++ e ∷ []) t
replayed_more calls first tree new es e s t place one found hold steps shape marked counted so_far =
    let plain = calls.list in
    record {
      shape = shape;
      placed = subst (ArePlaced plain (es ++ e ∷ [])) (sym marked) (placed_more plain es s.marks.items e place one so_far.shape.sized found so_far.placed);
      counted = (let long = length-append es (e ∷ []) in omega (arith, long, counted, so_far.counted));
      run = λ c is.
          let before = so_far.run c is in
          let step : EntrySteps tree new c e = record {
            call = found.0;
            so_far = listing_so_far plain place;
            of_request = call_of_message c plain is.are place e.at found.0 found.1 found.2;
            steps = steps found.0 found.1;
          } in (
            each_more c es e before.0 (hold_order c plain is.are es s.marks.items so_far.placed so_far.shape.sized e hold),
            run_more c first tree new es e before.1 step,
          );
    }
