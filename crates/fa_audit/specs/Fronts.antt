-- What a run writes that cuts a capture: the capture of its first messages, or why there is none.
use Rattle.std.specs.Prelude.{ℕ, ◌⊎◌, List, Option, Ok}
use Rattle.fa_capture.specs.declared.codes.TheConstants.{NO_MAGIC}
use Rattle.fa_capture.specs.Reading.{HasMagic, IsFrontOf}
use Rattle.fa_check.specs.declared.verdict.Verdict.TheVariants.{Fault}
use Rattle.fa_audit.specs.declared.status.Status.TheVariants as status
use Rattle.fa_audit.specs.Status.{status_number}
use Rattle.fa_audit.specs.declared.running.TheConstants.{MAX_CAPTURE_INPUT_BYTES}
use Rattle.fa_audit.specs.Run.{IsWritten, IsRead, IsTold}

-- The capture of the first messages of these bytes was written; or they do not begin as a capture does, and the line of that fault was
-- written.
abbrev pub IsFrontTold : (bytes : List ℕ) → (messages : ℕ) → (old new : Option (List ℕ)) → (ended : ℕ) → Type 0
IsFrontTold bytes messages old new ended =
    ((front : List ℕ) × IsFrontOf bytes messages front × IsWritten front (status_number status.Legal) old new ended)
    ⊎ ((HasMagic bytes → ⊥) × IsTold (Ok (Fault 0 NO_MAGIC)) old new ended)

-- Some bytes were read of the capture, and what is to be written of its first messages was written.
pub record IsFrontFrom (capture : Option (List ℕ)) (messages : ℕ) (old new : Option (List ℕ)) (ended : ℕ) : Type 0 where
  pub bytes : List ℕ
  pub read : IsRead MAX_CAPTURE_INPUT_BYTES capture bytes
  pub told : IsFrontTold bytes messages old new ended
