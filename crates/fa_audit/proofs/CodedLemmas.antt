-- Each code that the audit tells has a text.
use Rattle.std.proofs.Common.{◌≡◌, ℕ, List, [], ◌∷◌, ◌++◌, Option, None, Some, Result, Ok, Err, Bool, true, false, is_some, length, take, refl, sym, subst, inl, inr}
use Rattle.std.specs.Prelude.{IfOk, IsSome}
use Rattle.fa_capture.specs.declared.packet.Direction.{Direction}
use Rattle.fa_capture.specs.declared.packet.Direction.TheVariants.{ToServer, FromServer}
use Rattle.fa_capture.specs.Checks.{FirstFailure}
use Rattle.fa_capture.specs.Codes.{text_of}
use Rattle.fa_capture.specs.Captures.{IsCaptureOf}
use Rattle.fa_capture.specs.declared.capture.Capture.{Capture}
use Rattle.std.proofs.Math.Logic.{∥∥₁_elim}
use Rattle.std.proofs.Props.{props}
use Rattle.fa_capture.specs.Message.{Message, Recorded, without_times}
use Rattle.fa_capture.specs.Reading.{HasMagic, IsReading, IsFault, record_checks}
use Rattle.fa_capture.specs.Framing.{counted_bytes}
use Rattle.fa_capture.specs.declared.codes.TheConstants.{NO_MAGIC}
use Rattle.fa_capture.specs.declared.format.Format.{Format}
use Rattle.fa_capture.specs.declared.fault.CaptureFault.{CaptureFault}
use Rattle.fa_check.specs.declared.verdict.Verdict.{Verdict}
use Rattle.fa_check.specs.declared.verdict.Verdict.TheVariants.{Legal, Fault, NotShown}
use Rattle.fa_audit.specs.declared.verdict.AuditError.{AuditError}
use Rattle.fa_session.specs.Allowed.{checks_by}
use Rattle.fa_ledger.specs.Passing.{ledger_checks_by, message_checks, IsFirstFault}
use Rattle.fa_ledger.specs.Calls.{PlainCall}
use Rattle.fa_ledger.specs.Operations.{PlainOperation}
use Rattle.fa_bodies.specs.Dirents.{PlainDirent}
use Rattle.fa_tree.specs.State.{TreeState}
use Rattle.fa_tree.specs.Resolved.{Resolved, resolved}
use Rattle.fa_tree.specs.Operations.{count_written}
use Rattle.fa_tree.specs.Steps.{step_checks, checks_of_files}
use Rattle.fa_check.specs.Faults.{order_checks, StepFails, EntryFails, IsOrderAtFault}
use Rattle.fa_order.specs.declared.entry.Entry.{Entry}
use Rattle.fa_audit.specs.declared.verdict.StartError.{StartError}
use Rattle.fa_audit.specs.declared.verdict.StartError.TheVariants as starts
use Rattle.fa_audit.specs.Proposed.{answer_of}
use Rattle.fa_audit.specs.Starts.{IsNoStart}
use Rattle.fa_audit.specs.parts.Answers.{Tells}
use Rattle.fa_audit.specs.Line.{IsCoded}

-- the code of each check has a text
abbrev AllCoded : List (ℕ × Type 0) → Type 0
AllCoded [] = Unit {0}
AllCoded (c ∷ checks) = IsSome (text_of c.0) × AllCoded checks

coded_failure : (checks : List (ℕ × Type 0)) (code : ℕ) → AllCoded checks → FirstFailure checks code → IsSome (text_of code)
coded_failure [] code coded fails = absurd fails
coded_failure (c ∷ checks) code coded fails =
    elim fails [
      | inl here ↦ subst (λ (n : ℕ). IsSome (text_of n)) (sym here.1) coded.0
      | inr past ↦ coded_failure checks code coded.1 past.1
    ]

-- the checks of a message by its direction
message_coded : (d : Direction) (before : List Message) (m : Message) → AllCoded (checks_by d before m ++ ledger_checks_by d before m)
message_coded ToServer before m = (refl, (refl, (refl, (refl, (refl, (refl, (refl, (refl, (refl, (refl, (refl, (refl, (refl, tt)))))))))))))
message_coded FromServer before m = (refl, (refl, (refl, (refl, (refl, (refl, (refl, (refl, (refl, (refl, (refl, (refl, (refl, tt)))))))))))))

record_coded : (format : Format) (before counted : ℕ) (left : List ℕ) → AllCoded (record_checks format before counted left)
record_coded format before counted left = (refl, (refl, (refl, (refl, (refl, (refl, tt))))))

-- a framing fault's code, whether the magic is there or not
framing_cases : (bytes : List ℕ) (rs : List Recorded) (f : CaptureFault) (b : Bool) → is_some (text_of f.code) ≡ b → IsFault bytes rs (Some f) → IsSome (text_of f.code)
framing_cases bytes rs f true has fault = has
framing_cases bytes rs f false lacks fault =
    let without : HasMagic bytes → ⊥ = λ has.
    let there = fault.2 has.0 has.1 in
    let counted : ℕ = counted_bytes (without_times rs) in
    let coded : is_some (text_of f.code) ≡ true = coded_failure (record_checks has.0 (length rs) counted there.0) f.code (record_coded has.0 (length rs) counted there.0) there.3 in
    absurd cc in
    let code : f.code ≡ NO_MAGIC = fault.1 without in
    subst (λ (n : ℕ). IsSome (text_of n)) (sym code) refl

pub framing_coded : (bytes : List ℕ) (c : List Message) (framing : Option CaptureFault) (at code : ℕ) → IsReading bytes c framing → framing ≡ Some (record { whole = at; code = code }) → IsSome (text_of code)
framing_coded bytes c framing at code read is =
    framing_cases bytes read.0 (record { whole = at; code = code }) (is_some (text_of code)) refl (subst (IsFault bytes read.0) is read.2.ended)

pub fault_coded : (capture : List ℕ) (at code : ℕ) → IsFirstFault capture at code → IsSome (text_of code)
fault_coded capture at code first =
    elim first.fault [
      | inl message ↦ coded_failure (message_checks (take at first.messages) message.message) code (message_coded message.message.direction (take at first.messages) message.message) message.fails
      | inr framing ↦ framing_coded capture first.messages first.framing at code first.read framing.there
    ]

files_coded : (tree : TreeState) (call : PlainCall) (o : PlainOperation) (count : ℕ) (so_far : List PlainDirent) (files : Option Resolved) → AllCoded (checks_of_files tree call o count so_far files)
files_coded tree call o count so_far None = (refl, tt)
files_coded tree call o count so_far (Some files) = (refl, (refl, (refl, (refl, (refl, (refl, (refl, tt)))))))

-- the code with which an entry's step is refused
pub step_coded : (tree : TreeState) (c : List Message) (e : Entry) (code : ℕ) → StepFails tree c e code → IsSome (text_of code)
step_coded tree c e code step =
    coded_failure (step_checks tree step.call e.wrote step.so_far) code
    (files_coded tree step.call step.call.operation (count_written step.call.operation e.wrote) step.so_far (resolved tree step.call)) step.fails

entry_coded : (tree : TreeState) (c : List Message) (earlier : List Entry) (e : Entry) (code : ℕ) → EntryFails tree c earlier e code → IsSome (text_of code)
entry_coded tree c earlier e code fails =
    elim fails [
      | inl here ↦ coded_failure (order_checks c earlier e) code (refl, (refl, (refl, (refl, tt)))) here
      | inr step ↦ step_coded tree c e code step.1
    ]

order_coded : (c : List Message) (first : TreeState) (es : List Entry) (entry at code : ℕ) → IsOrderAtFault c first es entry at code → IsSome (text_of code)
order_coded c first es entry at code fault =
    elim fault [
      | inl fails ↦ entry_coded fails.tree c fails.earlier fails.e code fails.fails
      | inr leaves ↦ subst (λ (n : ℕ). IsSome (text_of n)) (sym leaves.told) refl
    ]

pub told_coded : (capture : List ℕ) (tree : Option (List ℕ)) (order : List ℕ) (result : Result Verdict AuditError) → Tells capture tree order result → IfOk result IsCoded
told_coded capture tree order (Ok (Legal messages placed left)) tells = tt
told_coded capture tree order (Ok (Fault at code)) tells = fault_coded capture at code tells
told_coded capture tree order (Ok (NotShown entry at code)) tells = order_coded tells.messages tells.first tells.entries entry at code tells.fault
told_coded capture tree order (Err error) tells = tt

-- that a code has a text is one fact
coded_prop : (result : Result Verdict AuditError) → IsProp (IfOk result IsCoded)
coded_prop (Ok (Legal messages placed left)) = hlevel props
coded_prop (Ok (Fault at code)) = hlevel props
coded_prop (Ok (NotShown entry at code)) = hlevel props
coded_prop (Err error) = hlevel props

-- what is told of a capture, which is that of some bytes
pub told_coded_of : (capture : Capture) (tree : Option (List ℕ)) (order : List ℕ) (result : Result Verdict AuditError) → ((bytes : List ℕ) → IsCaptureOf bytes capture → Tells bytes tree order result) → IfOk result IsCoded
told_coded_of capture tree order result tells = ∥∥₁_elim capture.of_bytes (coded_prop result) (λ x. told_coded x.0 tree order result (tells x.0 x.1))

-- the code of an order that has no start
pub no_start_coded : (capture : List ℕ) (tree : Option (List ℕ)) (error : StartError) → IsNoStart capture tree error → IfOk (answer_of error) IsCoded
no_start_coded capture tree (starts.Fault at code) fault = fault_coded capture at code fault
no_start_coded capture tree (starts.TreeText line) fault = tt
no_start_coded capture tree starts.Memory fault = tt
