use Rattle.std.proofs.Common.{ap, is_some, subst, sym}
use Rattle.fa_capture.specs.Message.{recorded}
use Rattle.fa_capture.specs.Walks.{HaveRead}
use Rattle.fa_capture.specs.parts.Walks.{ReadsOn}
use Rattle.fa_capture.proofs.StopLemmas.{reads_none, reads_one}
use Rattle.fa_capture.proofs.walk.Walk.first_failure.Goals as goal

pub loop-code-init : goal.loop-code-init
loop-code-init c = reads_none c.args.self.now

pub loop-code-preserved : goal.loop-code-preserved
loop-code-preserved c =
    let there = rw c.in-Ok-Some.field-0-is at c.in-Ok-Some.ensures.record in
    reads_one c.args.self.now c.loop-code.self c.next.new.self (recorded c.in-Ok-Some.field-0-0) c.loop-code.invariant there.0 there.1 (rw c.in-Ok-Some.field-0-is at c.in-Ok-Some.ensures.packet)

pub returns-in-Ok-None-clause-read : goal.returns-in-Ok-None-clause-read
returns-in-Ok-None-clause-read c = subst (ReadsOn c.args.self.now) (sym (c.in-Ok-None.ensures.still (ap is_some c.in-Ok-None.field-0-is))) c.loop-code.invariant

pub returns-in-Ok-None-clause-fault : goal.returns-in-Ok-None-clause-fault
returns-in-Ok-None-clause-fault c bytes rs read =
    let none = ap is_some c.in-Ok-None.field-0-is in
    c.in-Ok-None.ensures.end none bytes rs (subst (HaveRead bytes rs) (c.in-Ok-None.ensures.still none) read)

pub returns-in-Err-clause-read : goal.returns-in-Err-clause-read
returns-in-Err-clause-read c = subst (ReadsOn c.args.self.now) (sym c.in-Err.ensures.unchanged) c.loop-code.invariant

pub returns-in-Err-clause-fault : goal.returns-in-Err-clause-fault
returns-in-Err-clause-fault c bytes rs read = c.in-Err.ensures.fault bytes rs (subst (HaveRead bytes rs) c.in-Err.ensures.unchanged read)
