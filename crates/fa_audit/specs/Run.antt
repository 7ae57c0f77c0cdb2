-- What a run of the audit reads and writes.
use Rattle.std.specs.Prelude.{◌≡◌, ℕ, ◌<◌, ◌≤◌, ◌⊎◌, Bool, true, List, [], ◌∷◌, ◌++◌, length, Option, None, Some, IfSome, Result}
use Rattle.std.proofs.Common.{inl, inr}
use Rattle.std.specs.Borrow.{MutBor}
use Rattle.std.specs.Io.KnownBytes.{Appends, Consumes, IsAtEnd}
use Rattle.fa_capture.specs.Pieces.{IsDecided}
use Rattle.fa_capture.specs.declared.fault.CaptureFault.{CaptureFault}
use Rattle.fa_capture.specs.declared.input.ReadError.{ReadError}
use Rattle.fa_capture.specs.declared.input.ReadError.TheVariants.{Failed, TooLong, Turns, Memory}
use Rattle.fa_check.specs.declared.verdict.Verdict.{Verdict}
use Rattle.fa_audit.specs.declared.verdict.AuditError.{AuditError}
use Rattle.fa_audit.specs.declared.running.RunFault.{RunFault}
use Rattle.fa_audit.specs.declared.running.RunFault.TheVariants as faults
use Rattle.fa_audit.specs.declared.running.TheConstants.{MAX_TEXT_INPUT_BYTES}
use Rattle.fa_audit.specs.Verdict.{IsAnswer}
use Rattle.fa_audit.specs.Line.{answer_line, answer_status}

-- what ends a line
abbrev pub line_feed : List ℕ
line_feed = 10 ∷ []

-- this text was written, and the status with which the call ended is the due one
pub record IsWritten (text : List ℕ) (due : ℕ) (old new : Option (List ℕ)) (ended : ℕ) : Type 0 where
  pub written : Appends old new text
  pub status_is : ended ≡ due

-- the answer's line and one line feed were written, and the status is that of the answer
abbrev pub IsTold : Result Verdict AuditError → (old new : Option (List ℕ)) → (ended : ℕ) → Type 0
IsTold answer old new ended = IsWritten (answer_line answer ++ line_feed) (answer_status answer) old new ended

-- What a call leaves of an input that may be handed in: nothing, or the input as it is then.
abbrev pub LeftOf : Type 0 → Type 0
LeftOf R = Unit {0} ⊎ ((MutBor R × Unit {0}) ⊎ ⊥)

-- If an input is handed in, this holds of it as the call begins and as the call leaves it.
abbrev pub IfHandedIn : {R : Type 0} → Option (MutBor R) → LeftOf R → (R → R → Type 0) → Type 0
IfHandedIn None left Such = Unit {0}
IfHandedIn (Some input) (inr (inl left)) Such = Such input.now left.0.now
IfHandedIn (Some input) other Such = ⊥

-- An input is handed in, and this holds of it as the call begins and as the call leaves it.
abbrev pub IsHandedIn : {R : Type 0} → Option (MutBor R) → LeftOf R → (R → R → Type 0) → Type 0
IsHandedIn None left Such = ⊥
IsHandedIn (Some input) (inr (inl left)) Such = Such input.now left.0.now
IsHandedIn (Some input) other Such = ⊥

-- These are the bytes of an input: all that are left, where it tells that.
abbrev pub AreBytesOf : (remaining : Option (List ℕ)) → (bytes : List ℕ) → Type 0
AreBytesOf remaining bytes = IfSome remaining (λ left. bytes ≡ left)

-- These are the bytes of an input, at most so many.
pub record IsRead (limit : ℕ) (remaining : Option (List ℕ)) (bytes : List ℕ) : Type 0 where
  pub whole : AreBytesOf remaining bytes
  pub within : length bytes ≤ limit

-- Some bytes of the input were read, and have a framing fault whatever follows.
pub record IsReadToFault (old new : Option (List ℕ)) : Type 0 where
  pub read : List ℕ
  pub taken : Consumes old new read
  pub fault : CaptureFault
  pub decided : IsDecided read fault

-- The input of a capture was read to its end, or as far as it has a framing fault whatever follows.
abbrev pub IsAtEndOrFault : (old new : Option (List ℕ)) → Type 0
IsAtEndOrFault old new = IsAtEnd new ⊎ IsReadToFault old new

-- Some bytes were read, those of the input of a text.
abbrev pub IsSomeRead : (remaining : Option (List ℕ)) → (read : Option (List ℕ)) → Type 0
IsSomeRead remaining read = (bytes : List ℕ) × (read ≡ Some bytes) × IsRead MAX_TEXT_INPUT_BYTES remaining bytes

-- This was read of the input of a text that may be handed in: nothing where there is none, and else its bytes, as far as it tells them.
abbrev pub IsReadIfAny : {R : Type 0} → (R → Option (List ℕ)) → Option (MutBor R) → (read : Option (List ℕ)) → Type 0
IsReadIfAny remaining None read = read ≡ None
IsReadIfAny remaining (Some input) read = IsSomeRead (remaining input.now) read

-- These are the bytes of the capture and of the order, and of the tree what `Tree` says; the audit answers this of them, and the answer
-- was told.
pub record IsAudited (capture : Option (List ℕ)) (Tree : Option (List ℕ) → Type 0) (order old new : Option (List ℕ)) (status : ℕ) : Type 0 where
  pub capture_bytes : List ℕ
  pub tree_bytes : Option (List ℕ)
  pub order_bytes : List ℕ
  pub answer : Result Verdict AuditError
  pub capture_read : AreBytesOf capture capture_bytes
  pub tree_read : Tree tree_bytes
  pub order_read : IsRead MAX_TEXT_INPUT_BYTES order order_bytes
  pub is_answer : IsAnswer capture_bytes tree_bytes order_bytes answer
  pub told : IsTold answer old new status

-- The input failed or was interrupted, or has more bytes than so many, where it tells its bytes.
abbrev pub IsUnread : (limit : ℕ) → Option (List ℕ) → Bool → Bool → Type 0
IsUnread limit remaining failed interrupted =
    (failed ≡ true) ⊎ (interrupted ≡ true) ⊎ IfSome remaining (λ bytes. limit < length bytes)

-- The input failed or was interrupted.
abbrev pub FailedOrInterrupted : Bool → Bool → Type 0
FailedOrInterrupted failed interrupted = (failed ≡ true) ⊎ (interrupted ≡ true)

-- as which fault of a run an error of an input is told
abbrev pub IsReadFault : ReadError → RunFault → Type 0
IsReadFault Failed fault = fault ≡ faults.Read
IsReadFault TooLong fault = fault ≡ faults.Read
IsReadFault Turns fault = fault ≡ faults.Read
IsReadFault Memory fault = fault ≡ faults.Memory
