-- What is seen of a stream.
use Rattle.std.specs.Prelude.{◌≡◌, ℕ, ◌<◌, ◌≤◌, ◌⊎◌, List, ◌++◌, length, All, Option}
use Rattle.std.specs.Io.KnownBytes.{Consumes, IsAtEnd}
use Rattle.fa_capture.specs.Message.{Message}
use Rattle.fa_capture.specs.Pieces.{IsOpen}
use Rattle.fa_capture.specs.Reading.{IsReading}
use Rattle.fa_capture.specs.declared.fault.CaptureFault.{CaptureFault}
use Rattle.fa_capture.specs.declared.input.TheConstants.{PIECE}
use Rattle.fa_ledger.specs.Passing.{AreGood, IsGoodCapture, IsFirstFault}
use Rattle.fa_watch.specs.declared.watching.Seen.{Seen}
use Rattle.fa_watch.specs.declared.watching.Seen.TheVariants.{Good, Fault}

-- what is seen of these bytes: that they are a good capture of so many messages, or their first fault
abbrev pub IsSeen : List ℕ → Seen → Type 0
IsSeen bytes (Good messages) = (c : List Message) × IsGoodCapture bytes c × (messages ≡ length c)
IsSeen bytes (Fault at code) = IsFirstFault bytes at code

-- what is seen is decided: it is the fault of these bytes whatever follows
abbrev pub IsDecidedSeen : List ℕ → Seen → Type 0
IsDecidedSeen bytes (Good messages) = ⊥
IsDecidedSeen bytes (Fault at code) = (rest : List ℕ) → All (λ b. b < 256) (bytes ++ rest) → IsFirstFault (bytes ++ rest) at code

-- No message of these bytes breaks the protocol, and no framing fault is decided by them.
pub record HaveNoFault (bytes : List ℕ) : Type 0 where
  pub messages : List Message
  pub framing : Option CaptureFault
  pub read : IsReading bytes messages framing
  pub good : AreGood messages
  pub opens : IsOpen bytes

-- This was seen of the bytes that were read: all that there are, or as many as have a fault whatever follows. Without the last ones,
-- which are at most as many as a pull asks for, they have none.
pub record IsWatched (old new : Option (List ℕ)) (seen : Seen) : Type 0 where
  pub before : List ℕ
  pub piece : List ℕ
  pub read : Consumes old new (before ++ piece)
  pub is_seen : IsSeen (before ++ piece) seen
  pub whole : IsAtEnd new ⊎ IsDecidedSeen (before ++ piece) seen
  pub faultless : HaveNoFault before
  pub short : length piece ≤ PIECE
