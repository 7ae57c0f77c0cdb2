use Rattle.std.proofs.Common.{◌≡◌, ◌+◌, length, Bool, Vec, Global, vec_len, refl, sym, ap, subst, arith, rules}
use Rattle.std.specs.Prelude.{option_map}
use Rattle.fa_ledger.specs.Calls.{call_shown, answer_shown, PlainAnswer}
use Rattle.fa_check.proofs.PlacingLemmas.{AreAnswersOf, answers_kept, answers_more, answers_all, none_of}
use Rattle.fa_check.proofs.GoodLemmas.{answer_below}
use Rattle.fa_check.proofs.unplaced_answers.answers_of.Goals as goal
use Rattle.fa_check.proofs.unplaced_answers.answers_of.Goals.{in-Some, in_default}

pub index_mut-requires : goal.index_mut-requires
index_mut-requires c =
    let answer : PlainAnswer = answer_shown c.in-Some.answer in
    let has = ap (option_map answer_shown) c.in-Some.is in
    let below = answer_below c.args.calls.now.list c.args.calls.now.messages c.args.calls.now.good c.loop-place.place c.in-Some.answer.at (call_shown c.call.result, answer, c.call.ensures, has, refl) in
    let long : vec_len c.loop-place.marks ≡ length c.loop-place.marks.items = search rules in
    omega (arith, below, c.loop-place.invariant.wide, long)

pub loop-place-preserved : goal.loop-place-preserved
loop-place-preserved c =
    let list = c.args.calls.now.list in
    let messages = c.args.calls.now.messages in
    let n = c.loop-place.place in
    let call = c.call.result in
    elim c.match-call.branch [
      | in-Some w ↦
          let answer : PlainAnswer = answer_shown w.in-Some.answer in
          let has = ap (option_map answer_shown) w.in-Some.is in
          let below = answer_below list messages c.args.calls.now.good n w.in-Some.answer.at (call_shown call, answer, c.call.ensures, has, refl) in
          subst (λ (v : Vec Bool Global). AreAnswersOf list messages (n + 1) v.items) (sym w.marks-is)
          (answers_more list messages n c.loop-place.marks.items (call_shown call) answer c.call.ensures has below c.loop-place.invariant)
      | in_default w ↦
          let none = ap (option_map answer_shown) (none_of call.answer w.in_default.not-Some) in
          subst (λ (v : Vec Bool Global). AreAnswersOf list messages (n + 1) v.items) (sym w.marks-is)
          (answers_kept list messages n c.loop-place.marks.items (call_shown call) c.call.ensures none c.loop-place.invariant)
    ]

pub returns-clause-answers : goal.returns-clause-answers
returns-clause-answers c =
    answers_all c.args.calls.now.list c.args.calls.now.messages c.loop-place.place c.loop-place.marks.items
    (omega (arith, c.len-place-end.ensures, c.loop-place-test.false)) c.loop-place.invariant
