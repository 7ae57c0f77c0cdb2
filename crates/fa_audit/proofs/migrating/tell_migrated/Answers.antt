use Rattle.std.proofs.Common.{◌≡◌, ℕ, List, Some, Ok, refl, subst, inr}
use Rattle.std.proofs.lemmas.Result.{IfOk-weaker}
use Rattle.fa_capture.specs.Captures.{records_of, IsCaptureOf}
use Rattle.fa_capture.specs.Message.{without_times}
use Rattle.fa_capture.specs.Reading.{IsReading}
use Rattle.fa_capture.specs.declared.capture.Capture.{Capture}
use Rattle.fa_capture.specs.declared.fault.CaptureFault.{CaptureFault}
use Rattle.fa_check.specs.declared.verdict.Verdict.TheVariants.{Fault}
use Rattle.fa_audit.specs.Migrated.{IsMigratedTold}
use Rattle.fa_audit.specs.Run.{IsTold}
use Rattle.fa_audit.proofs.CodedLemmas.{framing_coded}
use Rattle.fa_audit.proofs.migrating.tell_migrated.Goals as goal

-- a capture with a fault is the reading of its bytes
fault_read : (bytes : List ℕ) (capture : Capture) (fault : CaptureFault) → capture.fault ≡ Some fault → IsCaptureOf bytes capture → IsReading bytes (without_times (records_of capture)) (Some fault)
fault_read bytes capture fault is of = subst (IsReading bytes (without_times (records_of capture))) is (records_of capture, refl, of)

pub tell-requires-clause-coded : goal.tell-requires-clause-coded
tell-requires-clause-coded g c =
    let capture = c.read_capture-capture in
    let fault = c.in-Some.fault in
    framing_coded c.args.bytes.now (without_times (records_of capture.result)) (Some fault) fault.whole fault.code (fault_read c.args.bytes.now capture.result fault c.in-Some.is capture.ensures) refl

pub returns-in-Some-clause-told : goal.returns-in-Some-clause-told
returns-in-Some-clause-told g c =
    let capture = c.read_capture-capture in
    let fault = c.in-Some.fault in
    let old = g.W.Output.written c.args.out.now in
    let new = g.W.Output.written c.tell.new.out in
    IfOk-weaker c.tell.result (IsTold (Ok (Fault fault.whole fault.code)) old new) (IsMigratedTold c.args.bytes.now old new)
    (λ ended told. inr (record { messages = without_times (records_of capture.result); fault = fault; read = fault_read c.args.bytes.now capture.result fault c.in-Some.is capture.ensures; told = told }))
    c.tell.ensures.told
