-- How messages stand in a capture: eight bytes that name its format, and then a record for each message. The formats are this profile's.
use Rattle.std.specs.Prelude.{ℕ, ◌+◌, ◌<◌, ◌≤◌, ◌^◌, List, [], ◌∷◌, ◌++◌, length, All, codes, ◌≡◌}
use Rattle.std.specs.List.{flat_map, sum_by}
use Rattle.std.specs.Int.{w32, w64, to_le_bytes}
use Rattle.fa_capture.specs.declared.packet.Direction.{Direction}
use Rattle.fa_capture.specs.declared.packet.Direction.TheVariants.{ToServer, FromServer}
use Rattle.fa_capture.specs.declared.format.Format.{Format}
use Rattle.fa_capture.specs.declared.format.Format.TheVariants.{Plain, Timed}
use Rattle.fa_capture.specs.declared.limits.TheConstants.{MAX_MESSAGES, MAX_MESSAGE_BYTES, MAX_CAPTURE_BYTES}
use Rattle.fa_capture.specs.Message.{Message, Recorded}

-- what a capture begins with
abbrev pub magic : Format → List ℕ
magic Plain = codes "FUSECAP1"
magic Timed = codes "FUSECAP2"

-- how a record tells which way its message went
abbrev pub direction_byte : Direction → ℕ
direction_byte ToServer = 0
direction_byte FromServer = 1

-- how it tells when: not at all, or in eight bytes, low byte first
abbrev pub time_spelling : Format → ℕ → List ℕ
time_spelling Plain time = []
time_spelling Timed time = to_le_bytes w64 time

-- the times that there are: where none is told it stands as 0
abbrev pub IsTime : Format → ℕ → Type 0
IsTime Plain time = time ≡ 0
IsTime Timed time = time < 2 ^ 64

-- a record: the direction in one byte, the time where the format has it, the length in four bytes, low byte first, and the message
abbrev pub record_spelling : Format → Recorded → List ℕ
record_spelling format r =
    direction_byte r.message.direction ∷ time_spelling format r.time ++ (to_le_bytes w32 (length r.message.bytes) ++ r.message.bytes)

-- the magic, and then the records one after the other
abbrev pub capture_spelling : Format → List Recorded → List ℕ
capture_spelling format rs = magic format ++ flat_map (record_spelling format) rs

-- how many bytes count for the limit on a capture: the magic and the records, without times
abbrev pub counted_bytes : List Message → ℕ
counted_bytes ms = 8 + sum_by (λ m. 5 + length m.bytes) ms

-- the messages keep the limits of this profile
pub record IsFramed (ms : List Message) : Type 0 where
  pub count : length ms ≤ MAX_MESSAGES
  pub each : All (λ m. length m.bytes ≤ MAX_MESSAGE_BYTES) ms
  pub size : counted_bytes ms ≤ MAX_CAPTURE_BYTES

-- the bytes are the spelling of these records in this format, and then some more or none
pub record BeginsWith (format : Format) (bytes : List ℕ) (rs : List Recorded) : Type 0 where
  pub times : All (λ r. IsTime format r.time) rs
  pub rest : List ℕ
  pub spelled : bytes ≡ capture_spelling format rs ++ rest
