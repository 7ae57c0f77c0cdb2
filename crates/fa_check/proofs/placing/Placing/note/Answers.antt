use Rattle.std.proofs.Common.{◌≡◌, length, refl, ap, arith}
use Rattle.std.specs.Prelude.{option_map}
use Rattle.std.proofs.lemmas.Option.{slice_get_within}
use Rattle.fa_ledger.specs.Calls.{PlainAnswer, call_shown, answer_shown}
use Rattle.fa_check.proofs.GoodLemmas.{answer_below}
use Rattle.fa_check.proofs.PlacingLemmas.{none_of, count_fits, placed_still, placed_less}
use Rattle.fa_check.proofs.placing.Placing.note.Goals as goal

pub overflow_add-self : goal.overflow_add-self
overflow_add-self c =
    let fits = count_fits c.args.calls.now.list c.args.calls.now.messages c.args.calls.now.good c.args.self.now c.args.place c.requires.shape c.requires.unplaced in
    omega (arith, fits)

pub call-requires : goal.call-requires
call-requires c =
    let list = c.args.calls.now.list in
    let within = slice_get_within c.args.self.now.marks.items c.args.place _ c.requires.unplaced in
    omega (arith, within, c.requires.shape.sized)

pub remove-requires-clause-within : goal.remove-requires-clause-within
remove-requires-clause-within c =
    let list = c.args.calls.now.list in
    let call = c.call.result in
    let within = slice_get_within c.args.self.now.marks.items c.args.place _ c.requires.unplaced in
    let there = c.call.ensures in
    let answer : PlainAnswer = answer_shown c.in-Some.answer in
    let below = answer_below list c.args.calls.now.messages c.args.calls.now.good c.args.place c.in-Some.answer.at (call_shown call, answer, there, ap (option_map answer_shown) c.in-Some.is, refl) in
    let wide : length c.args.self.now.waiting.answers.items ≡ c.args.calls.now.messages = c.requires.shape.wide in
    omega (arith, below, wide)

pub returns-in-Some-clause-shape : goal.returns-in-Some-clause-shape
returns-in-Some-clause-shape c =
    let list = c.args.calls.now.list in
    let call = c.call.result in
    let within = slice_get_within c.args.self.now.marks.items c.args.place _ c.requires.unplaced in
    let there = c.call.ensures in
    let answer : PlainAnswer = answer_shown c.in-Some.answer in
    placed_less list c.args.calls.now.messages c.args.calls.now.good c.args.self.now _ c.args.place (call_shown call) answer there (ap (option_map answer_shown) c.in-Some.is)
    c.requires.unplaced c.requires.shape refl c.remove.ensures.removed c.remove.ensures.front refl

pub returns-in_default-clause-shape : goal.returns-in_default-clause-shape
returns-in_default-clause-shape c =
    let list = c.args.calls.now.list in
    let call = c.call.result in
    let within = slice_get_within c.args.self.now.marks.items c.args.place _ c.requires.unplaced in
    let there = c.call.ensures in
    placed_still list c.args.calls.now.messages c.args.calls.now.good c.args.self.now _ c.args.place (call_shown call) there
    (ap (option_map answer_shown) (none_of call.answer c.in_default.not-Some)) c.requires.unplaced c.requires.shape refl refl refl
