-- A capture that comes in pieces: the bytes that were taken, and the fault that they have whatever follows.
use Rattle.std.specs.Prelude.{ℕ, List, ◌++◌, Option, Some, None}
use Rattle.fa_capture.specs.declared.fault.CaptureFault.{CaptureFault}
use Rattle.fa_capture.specs.Message.{Recorded}
use Rattle.fa_capture.specs.Reading.{IsRecording}

-- The bytes have this fault behind these records, whatever follows them.
pub record IsDecided (bytes : List ℕ) (fault : CaptureFault) : Type 0 where
  pub records : List Recorded
  pub stays : (rest : List ℕ) → IsRecording (bytes ++ rest) records (Some fault)

-- No fault is decided: the bytes have none, or what follows mends it or makes another one of it.
abbrev pub IsOpen : List ℕ → Type 0
IsOpen bytes = (fault : CaptureFault) → IsDecided bytes fault → ⊥

-- The fault that was told is decided; where none was told, none is.
abbrev pub IsToldOf : List ℕ → Option CaptureFault → Type 0
IsToldOf bytes None = IsOpen bytes
IsToldOf bytes (Some fault) = ∥ IsDecided bytes fault ∥₁

-- what a feed shows: the pieces that it took, joined, up to and with the one that decided a fault; and that fault, once it was told
pub record PlainFeed : Type 0 where
  pub bytes : List ℕ
  pub told : Option CaptureFault
