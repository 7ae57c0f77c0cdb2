use Rattle.std.proofs.Common.{◌≡◌, ◌≢◌, true, false, Err, Some, inr, sym, ap}
use Rattle.std.proofs.lemmas.Bool.{true≢false}
use Rattle.fa_capture.specs.declared.input.Pull.TheVariants.{Got, Failed}
use Rattle.fa_audit.proofs.StoredLemmas.{taken_more, fed_more, fault_stored}
use Rattle.fa_audit.proofs.running.stored_capture.Goals as goal

pub returns-in-Err-Fault-clause-capture : goal.returns-in-Err-Fault-clause-capture
returns-in-Err-Fault-clause-capture g c =
    let input = g.R.Input in
    let told = c.in-Err-Fault.ensures.fault c.in-Err-Fault.field-0-0 c.loop.invariant.untold (ap Err c.in-Err-Fault.field-0-is) in
    let decided = c.in-Err-Fault.ensures.decided c.in-Err-Fault.field-0-0 c.loop.invariant.untold (ap Err c.in-Err-Fault.field-0-is) in
    rw c.finish.ensures.bytes
    (fault_stored (input.remaining c.args.input.now) (input.remaining c.pull_from.new.input) c.pull_from.new.self.bytes c.in-Err-Fault.field-0-0
    (taken_more _ _ _ c.loop.feed c.pull_from.new.self told.0 (Some c.in-Err-Fault.field-0-0) c.loop.invariant.taken told.1 told.2) decided)

pub returns-in-Err-Fault-clause-end : goal.returns-in-Err-Fault-clause-end
returns-in-Err-Fault-clause-end g c =
    let told = c.in-Err-Fault.ensures.fault c.in-Err-Fault.field-0-0 c.loop.invariant.untold (ap Err c.in-Err-Fault.field-0-is) in
    inr (record {
      read = c.pull_from.new.self.bytes;
      taken = taken_more _ _ _ c.loop.feed c.pull_from.new.self told.0 (Some c.in-Err-Fault.field-0-0) c.loop.invariant.taken told.1 told.2;
      fault = c.in-Err-Fault.field-0-0;
      decided = c.in-Err-Fault.ensures.decided c.in-Err-Fault.field-0-0 c.loop.invariant.untold (ap Err c.in-Err-Fault.field-0-is);
    })

pub loop-preserved : goal.loop-preserved
loop-preserved g c =
    let taken = c.in-Ok.ensures.taken in
    let some : c.in-Ok.pull ≢ Got 0 = λ is. let end : false ≡ true = rw is at c.if-eq-2.ensures in true≢false (sym end) in
    let well : c.in-Ok.pull ≢ Failed = λ is. let failed : false ≡ true = rw is at c.if-eq.ensures in true≢false (sym failed) in
    fed_more _ _ _ c.loop.feed c.pull_from.new.self c.in-Ok.pull taken.0 _ _ _ _ c.loop.counter c.loop.invariant taken.1 taken.2 c.in-Ok.ensures.short some well
    c.in-Ok.ensures.failed c.in-Ok.ensures.interrupted
