use Rattle.std.proofs.Common.{◌≡◌, ◌<◌, ℕ, length, false, true, None, Some, sym, ap, ◌∙◌, arith}
use Rattle.std.specs.Prelude.{slice_get, option_map}
use Rattle.std.proofs.lemmas.Option.{slice_get_within, same_Some}
use Rattle.fa_ledger.specs.Calls.{PlainCall, call_shown, answer_shown}
use Rattle.fa_check.specs.Marks.{IsUnset}
use Rattle.fa_check.specs.Replays.{IsAnswerAt}
use Rattle.fa_check.proofs.GoodLemmas.{asked_rise}
use Rattle.fa_check.proofs.MarkLemmas.{mark_at, not_both}
use Rattle.fa_check.proofs.PlacingLemmas.{some_of, not_some}
use Rattle.fa_check.proofs.EndLemmas.{none_left_more, none_left, first_left}
use Rattle.fa_check.proofs.placing.Placing.least_left.Goals as goal
use Rattle.fa_check.proofs.placing.Placing.least_left.Goals.{else-is_some-via-then-is_some+else-not-index, else-is_some-via-else-is_some}

pub returns-then-is_empty : goal.returns-then-is_empty
returns-then-is_empty c = λ q waits. c.is_empty.ensures.0 c.if-is_empty.true q ((c.requires.waiting q).1 waits)

pub returns-then-not-index : goal.returns-then-not-index
returns-then-not-index c =
    let list = c.args.calls.now.list in
    let n = c.loop-place.place in
    let call = c.call-call.result in
    let there : slice_get list n ≡ Some (call_shown call) = c.call-call.ensures in
    let within : n < length list = slice_get_within list n (call_shown call) there in
    let answer = some_of call.answer (sym c.is_some.ensures ∙ c.if-is_some.true) in
    first_left list c.args.self.now.marks.items n (call_shown call) (answer_shown answer.0) (asked_rise list c.args.calls.now.messages c.args.calls.now.good)
    there (ap (option_map answer_shown) answer.1)
    (mark_at c.args.self.now.marks.items n c.index.result.now false (omega (arith, within, c.requires.sized)) c.index.ensures c.if-not-index.true) c.loop-place.invariant

pub loop-place-preserved : goal.loop-place-preserved
loop-place-preserved c =
    let list = c.args.calls.now.list in
    let n = c.loop-place.place in
    let call = c.call-call.result in
    let there : slice_get list n ≡ Some (call_shown call) = c.call-call.ensures in
    let within : n < length list = slice_get_within list n (call_shown call) there in
    let marks = c.args.self.now.marks.items in
    let none : (q : ℕ) → IsAnswerAt list n q → IsUnset marks n → ⊥ = λ q answer left. elim c.else-is_some.branch [
      | else-is_some-via-then-is_some+else-not-index w ↦
          not_both marks n (mark_at marks n w.index.result.now true (omega (arith, within, c.requires.sized)) w.index.ensures w.if-not-index.false) left
      | else-is_some-via-else-is_some w ↦
          let same = same_Some (call_shown call) answer.0 (sym there ∙ answer.2) in
          let gone = ap (option_map answer_shown) (not_some call.answer (sym c.is_some.ensures ∙ w.if-is_some.false)) in
          let clash : None ≡ Some answer.1 = sym gone ∙ ap (λ (x : PlainCall). x.answer) same ∙ answer.3 in
          absurd cc
    ] in
    none_left_more list marks n none c.loop-place.invariant

pub returns : goal.returns
returns c =
    let list = c.args.calls.now.list in
    none_left list c.args.self.now.marks.items c.loop-place.place
    (omega (arith, c.len-place-end.ensures, c.loop-place-test.false)) c.loop-place.invariant
