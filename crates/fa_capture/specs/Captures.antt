-- A capture: its packets, and the fault behind them.
use Rattle.std.specs.Prelude.{ℕ, List}
use Rattle.fa_capture.specs.declared.capture.Capture.{Capture}
use Rattle.fa_capture.specs.declared.packets.Packets.{Packets}
use Rattle.fa_capture.specs.Message.{Recorded}
use Rattle.fa_capture.specs.Reading.{IsRecording}

-- the packets that are still to come, with their times
abbrev pub records_left : Packets → List Recorded
records_left packets = packets.records.0

-- the messages of a capture, with their times
abbrev pub records_of : Capture → List Recorded
records_of capture = records_left capture.packets

-- the capture of these bytes
abbrev pub IsCaptureOf : List ℕ → Capture → Type 0
IsCaptureOf bytes capture = IsRecording bytes (records_of capture) capture.fault
