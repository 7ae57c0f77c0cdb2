-- Which requests are in flight at a message, and which one it answers, by the calls of the messages.
use Rattle.std.proofs.Common.{◌≡◌, ◌↔◌, ℕ, ◌+◌, ◌<◌, ◌≤◌, List, length, get_or, take, Option, Some, None, refl, sym, subst, ◌∙◌, inl, inr, arith}
use Rattle.std.specs.Prelude.{All, slice_get}
use Rattle.std.proofs.lemmas.Bool.{cases_lt}
use Rattle.std.proofs.lemmas.List.Elements.{All-push, All-weaker}
use Rattle.std.proofs.lemmas.Option.{same_Some, get_or_from_slice_get}
use Rattle.fa_capture.specs.Message.{Message}
use Rattle.fa_capture.proofs.CallerLemmas.{take_one_more}
use Rattle.fa_session.specs.Answers.{IsAnsweredBy}
use Rattle.fa_ledger.specs.declared.name.NodeName.{NodeName}
use Rattle.fa_ledger.specs.declared.name.NodeName.TheVariants.{Root, Given}
use Rattle.fa_ledger.specs.Calls.{PlainAnswer, PlainCall, AreCalls}
use Rattle.fa_ledger.specs.Choices.{Allows, AllowsBy, MayBePlaced}
use Rattle.fa_ledger.specs.Kinds.{OnlyReads}
use Rattle.fa_ledger.specs.Operations.{PlainOperation}
use Rattle.fa_ledger.specs.Operations.PlainAction.{Write}
use Rattle.fa_ledger.specs.Operations.PlainOperation.{Acts}
use Rattle.fa_order.specs.declared.entry.Entry.{Entry}
use Rattle.fa_check.specs.Orders.{IsTreeRequestAt}
use Rattle.fa_check.specs.Cuts.{IsAnsweredBefore}
use Rattle.fa_check.specs.Replays.{IsAnswerAt}
use Rattle.fa_check.proofs.CallerLemmas.{call_is_tree, tree_is_call, call_answered, answered_call, allowed_choice, choice_allowed}
use Rattle.fa_search.specs.parts.Configurations.{most_written, IsCountUpTo, IsPending, IsCallPending, AnswersNone, IsGivenUpTo}
use Rattle.fa_search.proofs.LoopLemmas.{there_at}

-- ---- which calls an order may name

-- one without an answer that does not only read may be placed somehow
some_choice : (o : PlainOperation) → (OnlyReads o → ⊥) → (wrote : Option ℕ) × MayBePlaced o wrote
some_choice (Acts (Write offset size payload o)) changes = (Some 0, (0, refl, omega arith))
some_choice other changes = (None, (changes, refl))

-- and one that only reads may not
pub no_choice : (o : PlainOperation) (wrote : Option ℕ) → OnlyReads o → MayBePlaced o wrote → ⊥
no_choice (Acts (Write offset size payload o)) wrote reads may = reads
no_choice other wrote reads may = may.0 reads

-- so an order may name each call but one without an answer that only reads
pub call_named : (call : PlainCall) → (call.answer ≡ None → OnlyReads call.operation → ⊥) → (wrote : Option ℕ) × Allows call wrote
call_named call named = by call.answer named
  where
    by : (answer : Option PlainAnswer) → (answer ≡ None → OnlyReads call.operation → ⊥) → (wrote : Option ℕ) × AllowsBy answer call.operation wrote
    by None changes = some_choice call.operation (changes refl)
    by (Some answer) changes = (None, refl)

pub call_unnamed : (call : PlainCall) (wrote : Option ℕ) → call.answer ≡ None → OnlyReads call.operation → Allows call wrote → ⊥
call_unnamed call wrote none reads allowed = no_choice call.operation wrote reads (subst (λ (answer : Option PlainAnswer). AllowsBy answer call.operation wrote) none allowed)

-- and the counts that it allows are those up to the most
pub counts_allowed : (call : PlainCall) → (call.answer ≡ None → OnlyReads call.operation → ⊥) → (wrote : Option ℕ) → Allows call wrote ↔ IsCountUpTo (most_written call.answer call.operation) wrote
counts_allowed call named wrote = by call.answer call.operation named
  where
    by : (answer : Option PlainAnswer) (o : PlainOperation) → (answer ≡ None → OnlyReads o → ⊥) → AllowsBy answer o wrote ↔ IsCountUpTo (most_written answer o) wrote
    by None (Acts (Write offset size payload o)) changes = ((λ may. may), (λ up. up))
    by None other changes = ((λ may. may.1), (λ none. (changes refl, none)))
    by (Some answer) o changes = ((λ none. none), (λ none. none))

module _ (c : List Message) (calls : List PlainCall) (are : AreCalls c calls) (at : ℕ) where
  -- ---- which one a message answers

  -- a message that is the answer of no call answers no tree request
  pub no_answer_answers_none : ((place : ℕ) → IsAnswerAt calls place at → ⊥) → AnswersNone c at
  no_answer_answers_none none p tree by =
      let found = tree_is_call c calls are p tree in
      none found.0 (answered_call c calls are found.0 found.1.0 at found.1.1 (subst (λ (k : ℕ). IsAnsweredBy c k at) (sym found.1.2) by))

  -- and one that is the answer of a call answers its request
  pub answer_answers : (place : ℕ) (answer : IsAnswerAt calls place at) → IsTreeRequestAt c answer.0.asked × IsAnsweredBy c answer.0.asked at
  answer_answers place answer = (
    call_is_tree c calls are place answer.0 answer.2,
    subst (IsAnsweredBy c answer.0.asked) answer.4 (call_answered c calls are place answer.0 answer.1 answer.2 answer.3),
  )

  -- ---- which are in flight

  module _ (place : ℕ) (call : PlainCall) (there : slice_get calls place ≡ Some call) where
    -- the request of a call waits where its answer is not before the message
    waits_by_answer : ((answer : PlainAnswer) → call.answer ≡ Some answer → at ≤ answer.at) → IsAnsweredBefore c at call.asked → ⊥
    waits_by_answer waits before =
        let answer = answered_call c calls are place call before.0 there before.1 in
        let same : answer.0 ≡ call = same_Some answer.0 call (sym answer.2 ∙ there) in
        let late = waits answer.1 (subst (λ (x : PlainCall). x.answer ≡ Some answer.1) same answer.3) in
        let early = before.2 in
        let here = answer.4 in
        omega (arith, late, early, here)

    -- and the other way round
    answer_by_waits : (IsAnsweredBefore c at call.asked → ⊥) → (answer : PlainAnswer) → call.answer ≡ Some answer → at ≤ answer.at
    answer_by_waits waits answer has =
        elim (cases_lt answer.at at) [
          | inl early ↦ absurd (waits (answer.at, call_answered c calls are place call answer there has, early))
          | inr late ↦ late
        ]

    -- so the request of a call is in flight exactly where the call is
    pub pending_by_call : IsPending c at call.asked ↔ IsCallPending at call
    pending_by_call = (
      (λ is. record {
        sent = is.sent;
        waits = answer_by_waits is.waits;
        named = λ none reads.
            let e : Entry = record { at = call.asked; wrote = is.named.0 } in
            call_unnamed call is.named.0 none reads (choice_allowed c calls are e is.named.1 place call there refl);
      }),
      (λ is.
          let some = call_named call is.named in
          let e : Entry = record { at = call.asked; wrote = some.0 } in
          record {
            tree_request = call_is_tree c calls are place call there;
            sent = is.sent;
            waits = waits_by_answer is.waits;
            named = (some.0, allowed_choice c calls are e place call there refl some.1);
          }),
    )

-- ---- nodes that are given

up_more : (last more : ℕ) → last ≤ more → (name : NodeName) → IsGivenUpTo last name → IsGivenUpTo more name
up_more last more later Root given = absurd given
up_more last more later (Given by id) given = omega (arith, given, later)

-- one node more is given up to a later reply
pub given_more : (names : List NodeName) (n last more : ℕ) → n < length names → last ≤ more → IsGivenUpTo more (get_or names n Root) → All (IsGivenUpTo last) (take n names)
    → All (IsGivenUpTo more) (take (n + 1) names)
given_more names n last more within later now given =
    let one = there_at names n within in
    subst (All (IsGivenUpTo more)) (sym (take_one_more names n one.0 one.1))
    (All-push (IsGivenUpTo more) (take n names) one.0 (All-weaker (IsGivenUpTo last) (IsGivenUpTo more) (up_more last more later) (take n names) given)
    (subst (IsGivenUpTo more) (get_or_from_slice_get names n one.0 Root one.1) now))
