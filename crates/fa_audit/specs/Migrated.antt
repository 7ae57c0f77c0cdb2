-- What a run writes that migrates a capture: the capture with times, or why there is none.
use Rattle.std.specs.Prelude.{ℕ, ◌⊎◌, List, Option, Some, Ok}
use Rattle.fa_capture.specs.declared.fault.CaptureFault.{CaptureFault}
use Rattle.fa_capture.specs.Message.{Message}
use Rattle.fa_capture.specs.Reading.{IsReading, IsMigrated}
use Rattle.fa_check.specs.declared.verdict.Verdict.TheVariants.{Fault}
use Rattle.fa_audit.specs.declared.status.Status.TheVariants as status
use Rattle.fa_audit.specs.Status.{status_number}
use Rattle.fa_audit.specs.declared.running.TheConstants.{MAX_CAPTURE_INPUT_BYTES}
use Rattle.fa_audit.specs.Run.{IsWritten, IsRead, IsTold}

-- the bytes have a framing fault, and its line was written
pub record IsFramingFaultTold (bytes : List ℕ) (old new : Option (List ℕ)) (ended : ℕ) : Type 0 where
  pub messages : List Message
  pub fault : CaptureFault
  pub read : IsReading bytes messages (Some fault)
  pub told : IsTold (Ok (Fault fault.whole fault.code)) old new ended

-- The capture with times that holds what these bytes hold was written; or they have a framing fault, and its line was written.
abbrev pub IsMigratedTold : (bytes : List ℕ) → (old new : Option (List ℕ)) → (ended : ℕ) → Type 0
IsMigratedTold bytes old new ended =
    ((migrated : List ℕ) × IsMigrated bytes migrated × IsWritten migrated (status_number status.Legal) old new ended)
    ⊎ IsFramingFaultTold bytes old new ended

-- Some bytes were read of the capture, and what is to be written of them was written.
pub record IsMigratedFrom (capture old new : Option (List ℕ)) (ended : ℕ) : Type 0 where
  pub bytes : List ℕ
  pub read : IsRead MAX_CAPTURE_INPUT_BYTES capture bytes
  pub told : IsMigratedTold bytes old new ended
