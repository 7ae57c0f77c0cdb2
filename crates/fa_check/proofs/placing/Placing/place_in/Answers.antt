use Rattle.std.proofs.Common.{arith, subst}
use Rattle.std.proofs.lemmas.Option.{slice_get_within}
use Rattle.std.proofs.lemmas.Result.{err_from_is_err_and}
use Rattle.fa_capture.specs.Checks.{AllHold, FirstFailure}
use Rattle.fa_ledger.specs.declared.calls.Calls.{Calls}
use Rattle.fa_check.specs.Replays.{IsPlacing, IsCallOf}
use Rattle.fa_check.specs.parts.Placing.{place_checks}
use Rattle.fa_check.proofs.GoodLemmas.{one_place}
use Rattle.fa_check.proofs.EntryLemmas.{place_fails, step_fails, replayed_more}
use Rattle.fa_check.proofs.placing.Placing.place_in.Goals as goal

pub returns-in_err-place-clause-refused : goal.returns-in_err-place-clause-refused
returns-in_err-place-clause-refused c =
    let p = err_from_is_err_and c.from_residual.result c.from_residual.ensures.1 in
    let fault = subst (λ (x : Calls). FirstFailure (place_checks x.list c.args.self.now.marks.items c.args.entry) c.in_err-place.field-0.0) c.calls-calls.ensures c.in_err-place.ensures.fault in
    rw (p.1, p.2) (place_fails c.args.replay.now c.args.tree.now c.args.entry c.args.self.now c.in_err-place.field-0.0 fault)

pub step_in-requires-clause-there : goal.step_in-requires-clause-there
step_in-requires-clause-there c =
    let list = c.args.replay.now.list in
    let found = subst (λ (x : Calls). IsCallOf x.list c.in_ok-place.place c.args.entry.at) c.calls-calls.ensures c.in_ok-place.ensures.found in
    let within = slice_get_within list c.in_ok-place.place found.0 found.1 in
    omega (arith, within)

pub returns-in_err-step_in-clause-refused : goal.returns-in_err-step_in-clause-refused
returns-in_err-step_in-clause-refused c =
    let p = err_from_is_err_and c.from_residual-in_err-step_in.result c.from_residual-in_err-step_in.ensures.1 in
    let found = subst (λ (x : Calls). IsCallOf x.list c.in_ok-place.place c.args.entry.at) c.calls-calls.ensures c.in_ok-place.ensures.found in
    let holds = subst (λ (x : Calls). AllHold (place_checks x.list c.args.self.now.marks.items c.args.entry)) c.calls-calls.ensures c.in_ok-place.ensures.holds in
    rw (p.1, p.2) (step_fails c.args.replay.now c.args.tree.now c.args.entry c.args.self.now c.in_ok-place.place c.in_err-step_in.field-0.0 found holds c.in_err-step_in.ensures.refused)

pub returns-clause-placed : goal.returns-clause-placed
returns-clause-placed c = λ first es so_far.
    let calls = c.args.replay.now in
    let found = subst (λ (x : Calls). IsCallOf x.list c.in_ok-place.place c.args.entry.at) c.calls-calls.ensures c.in_ok-place.ensures.found in
    let holds = subst (λ (x : Calls). AllHold (place_checks x.list c.args.self.now.marks.items c.args.entry)) c.calls-calls.ensures c.in_ok-place.ensures.holds in
    let shape = subst (λ (x : Calls). IsPlacing x.list x.messages c.note.new.self) c.calls-calls.ensures c.note.ensures.shape in
    replayed_more calls first c.args.tree.now c.step_in.new.self es c.args.entry c.args.self.now c.note.new.self c.in_ok-place.place
    (one_place calls.list calls.messages calls.good) found holds c.in_ok-step_in.ensures.steps
    shape c.note.ensures.marked c.note.ensures.counted so_far
