-- A message of a capture, without where its bytes lie in memory.
use Rattle.std.specs.Prelude.{ℕ, List, map}
use Rattle.fa_capture.specs.declared.packet.Direction.{Direction}
use Rattle.fa_capture.specs.declared.packet.Packet.{Packet}

-- which way it went, and its bytes
pub record Message : Type 0 where
  pub direction : Direction
  pub bytes : List ℕ

-- what a packet shows
abbrev pub message : Packet → Message
message p = record { direction = p.direction; bytes = p.bytes.now }

-- what packets show, in their order
abbrev pub messages : List Packet → List Message
messages ps = map message ps

-- a message, and when it was recorded
pub record Recorded : Type 0 where
  pub message : Message
  pub time : ℕ

-- what a packet shows with its time
abbrev pub recorded : Packet → Recorded
recorded p = record { message = message p; time = p.time }

-- what packets show with their times, in their order
abbrev pub recordings : List Packet → List Recorded
recordings ps = map recorded ps

-- the messages alone
abbrev pub without_times : List Recorded → List Message
without_times rs = map (λ r. r.message) rs
