-- A capture that is read as it comes, and is not kept.
use Rattle.std.specs.Prelude.{ℕ, List, Option}
use Rattle.fa_capture.specs.declared.fault.CaptureFault.{CaptureFault}
use Rattle.fa_capture.specs.Message.{Recorded}
use Rattle.fa_capture.specs.Reading.{IsRecording}
use Rattle.fa_capture.specs.Walks.{PlainWalk, HaveReadIfAny}

-- What is kept of a capture: the bytes behind the records that were given out; the walk over these records, which has those bytes left,
-- once there is a magic; and the fault of the capture where nothing follows.
pub record PlainIncoming : Type 0 where
  pub kept : List ℕ
  pub walk : Option PlainWalk
  pub fault : Option CaptureFault

-- These bytes have come, and these records of them were given out: all whole ones, with which they have this fault.
pub record HasCome (bytes : List ℕ) (rs : List Recorded) (s : PlainIncoming) : Type 0 where
  pub recording : IsRecording bytes rs s.fault
  pub read : HaveReadIfAny bytes rs s.kept s.walk
