-- What the fields of a capture that is read as it comes show.
use Rattle.std.specs.Prelude.{◌≡◌, ℕ, List, length, Option, None, Some}
use Rattle.fa_capture.specs.declared.codes.TheConstants.{NO_MAGIC}
use Rattle.fa_capture.specs.declared.fault.CaptureFault.{CaptureFault}
use Rattle.fa_capture.specs.declared.incoming.Incoming.TheInside.{Inside}
use Rattle.fa_capture.specs.declared.incoming.WholeRecords.{WholeRecords}
use Rattle.fa_capture.specs.declared.walk.Progress.{Progress}
use Rattle.fa_capture.specs.Incoming.{PlainIncoming}
use Rattle.fa_capture.specs.Captures.{records_left}
use Rattle.fa_capture.specs.Message.{Recorded}
use Rattle.fa_capture.specs.Reading.{IsRecording}
use Rattle.fa_capture.specs.Walks.{PlainWalk, HaveRead}
use Rattle.fa_capture.specs.parts.Walks.{ReadsOn, IsWithinLimits, IsWithinLimitsIfAny, fault_at, fault_behind, walk_behind, walk_if_any}

-- the fault where nothing follows
abbrev pub end_fault : Option Progress → Option ℕ → Option CaptureFault
end_fault None code = Some (record { whole = 0; code = NO_MAGIC })
end_fault (Some so_far) code = fault_at so_far.count code

abbrev pub incoming_shown : Inside → PlainIncoming
incoming_shown s = record { kept = s.kept.items; walk = walk_if_any s.so_far s.kept.items; fault = end_fault s.so_far s.code }

abbrev pub IsIncoming : Inside → Type 0
IsIncoming s = IsWithinLimitsIfAny s.so_far

-- the whole records that a walk had before it, and where it stopped behind them
pub record AreWholeRecords (walk : PlainWalk) (whole : WholeRecords) : Type 0 where
  pub after : PlainWalk
  pub on : ReadsOn walk after
  pub packets : records_left whole.packets ≡ on.more
  pub so_far : after ≡ walk_behind whole.so_far after.left
  pub within : IsWithinLimits whole.so_far
  pub left : whole.left ≡ length after.left
  pub fault : (bytes : List ℕ) (rs : List Recorded) → HaveRead bytes rs after → IsRecording bytes rs (fault_behind rs whole.code)
