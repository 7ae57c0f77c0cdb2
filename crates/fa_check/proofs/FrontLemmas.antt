-- The front of an order: what it says of the entry that may come next, and of the end.
use Rattle.std.proofs.Common.{◌≡◌, ℕ, ◌<◌, ◌≤◌, List, [], ◌∷◌, ◌++◌, length, Option, Some, None, refl, subst, inl, inr, arith}
use Rattle.std.specs.Prelude.{slice_get, Contains}
use Rattle.std.proofs.lemmas.Bool.{cases_lt}
use Rattle.std.proofs.lemmas.Option.{slice_get_within}
use Rattle.fa_capture.specs.Checks.{AllHold}
use Rattle.fa_capture.specs.Message.{Message}
use Rattle.fa_session.specs.Answers.{IsAnsweredBy}
use Rattle.fa_ledger.specs.declared.calls.Calls.{Calls}
use Rattle.fa_ledger.specs.Calls.{PlainCall, AreCalls}
use Rattle.fa_ledger.specs.Choices.{Allows}
use Rattle.fa_tree.specs.State.{TreeState}
use Rattle.fa_tree.specs.declared.error.StepError.TheVariants.{Refused}
use Rattle.fa_order.specs.declared.entry.Entry.{Entry}
use Rattle.fa_check.specs.declared.placing.Placing.{Placing}
use Rattle.fa_check.specs.Orders.{numbers}
use Rattle.fa_check.specs.Runs.{EntrySteps}
use Rattle.fa_check.specs.Faults.{order_checks, IsAnsweredUnplaced}
use Rattle.fa_check.specs.Verdicts.{AreMessagesOf}
use Rattle.fa_check.specs.Marks.{IsSet}
use Rattle.fa_check.specs.Replays.{IsReplayed, NextFails, IsFront}
use Rattle.fa_check.proofs.RunLemmas.{run_is_one, run_more, run_at}
use Rattle.fa_check.proofs.FaultLemmas.{no_entry_failure}
use Rattle.fa_check.proofs.MarkLemmas.{not_both, count_within}
use Rattle.fa_check.proofs.MessageLemmas.{call_is_tree, call_answered, asked_within}
use Rattle.fa_check.proofs.PlacingLemmas.{none_early}
use Rattle.fa_check.proofs.EntryLemmas.{allowed_choice, choice_allowed, waits_placed}

-- ---- the front of what was replayed

-- it is the first answer that waits
pub replayed_front : (calls : Calls) (first tree : TreeState) (es : List Entry) (s : Placing) → IsReplayed calls first tree es s → (c : List Message) → AreMessagesOf calls c → IsFront c es s.waiting.front
replayed_front calls first tree es s so_far c is =
    let plain = calls.list in
    let marks = s.marks.items in
    let shape = so_far.shape in
    let front = s.waiting.front in
    let here : Entry = record { at = front; wrote = None } in
    record {
      within = omega (arith, shape.front.within, shape.wide, is.counted);
      before = waits_placed c plain is.are es marks so_far.placed shape.sized here (none_early plain calls.messages calls.good s front shape (omega arith));
      there = λ below.
          let first_set : IsSet s.waiting.answers.items front = shape.front.there (omega (arith, below, shape.wide, is.counted)) in
          let waits = (shape.waiting front).0 first_set in
          let call = waits.1.0 in (
            call.asked,
            call_is_tree c plain is.are waits.0 call waits.1.2,
            subst (IsAnsweredBy c call.asked) waits.1.4 (call_answered c plain is.are waits.0 call waits.1.1 waits.1.2 waits.1.3),
            (λ has. not_both marks waits.0 ((so_far.placed.exact waits.0 call waits.1.2).1 has) waits.2),
          );
    }

-- ---- the next entry

-- the call whose request was sent before the front, which is not placed, and whose choice is allowed, may come next
pub may_come_next : (c : List Message) (calls : List PlainCall) → AreCalls c calls → (es : List Entry) (front : ℕ) → IsFront c es front
    → (place : ℕ) (call : PlainCall) (wrote : Option ℕ) → slice_get calls place ≡ Some call → call.asked ≤ front → (Contains (numbers es) call.asked → ⊥) → Allows call wrote
    → AllHold (order_checks c es (record { at = call.asked; wrote = wrote }))
may_come_next c calls are es front is place call wrote there before apart allowed = (
  call_is_tree c calls are place call there,
  (
    apart,
    (
      (λ p q tree answered early. is.before p q tree answered (omega (arith, early, before))),
      (allowed_choice c calls are (record { at = call.asked; wrote = wrote }) place call there refl allowed, tt),
    ),
  ),
)

-- and no other
pub comes_before_front : (c : List Message) (calls : List PlainCall) → AreCalls c calls → (es : List Entry) (front : ℕ) → IsFront c es front
    → (place : ℕ) (call : PlainCall) (wrote : Option ℕ) → slice_get calls place ≡ Some call → AllHold (order_checks c es (record { at = call.asked; wrote = wrote }))
    → (call.asked ≤ front) × (Contains (numbers es) call.asked → ⊥) × Allows call wrote
comes_before_front c calls are es front is place call wrote there hold = (
  elim (cases_lt front call.asked) [
    | inl behind ↦
        let within = asked_within c calls are place call there in
        let first = is.there (omega (arith, behind, within)) in
        absurd (first.3 (hold.1.1.0 first.0 front first.1 first.2 behind))
    | inr before ↦ before
  ],
  hold.1.0,
  choice_allowed c calls are (record { at = call.asked; wrote = wrote }) hold.1.1.1.0 place call there refl,
)

-- what was replayed goes on by a step
pub replayed_step : (calls : Calls) (first tree new : TreeState) (es : List Entry) (e : Entry) (s t : Placing) → IsReplayed calls first tree es s → IsReplayed calls first new (es ++ e ∷ []) t
    → (c : List Message) → AreMessagesOf calls c → EntrySteps tree new c e
replayed_step calls first tree new es e s t so_far further c is =
    let before = (so_far.run c is).1 in
    let behind = (further.run c is).1 in
    let last = run_at c first new es [] e behind in
    let from : last.0 ≡ tree = run_is_one c first last.0 tree es last.2 before in
    let to : last.1 ≡ new = run_is_one c first last.1 new (es ++ e ∷ []) (run_more c first last.0 last.1 es e last.2 last.3) behind in
    subst (λ t. EntrySteps tree t c e) to (subst (λ t. EntrySteps t last.1 c e) from last.3)

-- an entry that may come next, and is refused, has no step
pub refused_no_step : (calls : Calls) (first tree : TreeState) (es : List Entry) (e : Entry) (s : Placing) (code : ℕ) → IsReplayed calls first tree es s → NextFails calls tree e s (Refused code)
    → (c : List Message) → AreMessagesOf calls c → AllHold (order_checks c es e) → (new : TreeState) → EntrySteps tree new c e → ⊥
refused_no_step calls first tree es e s code so_far fails c is hold new steps = no_entry_failure c tree new es e code hold steps (fails first es so_far c is)

-- ---- the end

-- there are no more entries than calls
pub entries_within : (calls : Calls) (first tree : TreeState) (es : List Entry) (s : Placing) → IsReplayed calls first tree es s → length es ≤ length calls.list
entries_within calls first tree es s so_far =
    let within = count_within s.marks.items in
    omega (arith, within, so_far.counted, so_far.shape.counted, so_far.shape.sized)

-- where the front is behind all messages, all answered requests are placed
pub all_before_front : (c : List Message) (es : List Entry) (front : ℕ) → IsFront c es front → length c ≤ front → (p : ℕ) → IsAnsweredUnplaced c es p → ⊥
all_before_front c es front is behind p left =
    let answer = left.1 in
    let within = slice_get_within c answer.0 answer.1.1.0 answer.1.1.1 in
    left.2 (is.before p answer.0 left.0 answer.1 (omega (arith, within, behind)))

-- and where it is not, some answered request is left
pub left_at_front : (c : List Message) (es : List Entry) (front : ℕ) → IsFront c es front → front < length c → ((p : ℕ) → IsAnsweredUnplaced c es p → ⊥) → ⊥
left_at_front c es front is within none =
    let first = is.there within in
    none first.0 (first.1, (front, first.2), first.3)
