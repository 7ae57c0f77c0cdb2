use Rattle.std.proofs.Common.{arith}
use Rattle.std.proofs.lemmas.Option.{slice_get_within}
use Rattle.fa_check.proofs.CuttingLemmas.{on_none, no_call, found_as, shown_not_done, done_test}
use Rattle.fa_check.proofs.cutting.is_answered_entry.Goals as goal

pub returns-in_default : goal.returns-in_default
returns-in_default c = λ messages is. (
  (λ t. absurd cc),
  (λ done. absurd (no_call c.args.calls.now c.args.entry.at (on_none c.find.result _ c.find.ensures.none c.in_default.not-Some) messages is done.0)),
)

pub call-requires : goal.call-requires
call-requires c =
    let list = c.args.calls.now.list in
    let found = c.in-Some.ensures.found in
    let within = slice_get_within list c.in-Some.place found.0 found.1 in
    omega (arith, within)

pub returns-in-Some-answer : goal.returns-in-Some-answer
returns-in-Some-answer c = λ messages is.
    done_test c.args.calls.now c.in-Some.place c.args.messages c.args.entry c.call.result
    (found_as c.args.calls.now c.in-Some.place c.args.entry.at c.call.result c.in-Some.ensures.found c.call.ensures) messages is c.in-Some-answer.answer c.in-Some-answer.is

pub returns-in-None : goal.returns-in-None
returns-in-None c = λ messages is. (
  (λ t. absurd cc),
  (λ done. absurd (shown_not_done c.args.calls.now c.in-Some.place c.args.messages c.args.entry c.call.result
      (found_as c.args.calls.now c.in-Some.place c.args.entry.at c.call.result c.in-Some.ensures.found c.call.ensures) messages is c.in-None.is done)),
)
