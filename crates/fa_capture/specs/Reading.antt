-- What a capture's bytes hold: its records, and the fault that ends them. The order of the checks is this profile's.
use Rattle.std.specs.Prelude.{◌≡◌, ◌≢◌, ℕ, ◌+◌, ◌<◌, ◌≤◌, List, [], ◌∷◌, ◌++◌, length, take, drop, slice_index, All, Option, None, Some}
use Rattle.std.specs.Int.{w32, from_le_bytes}
use Rattle.fa_capture.specs.declared.codes.TheConstants.{NO_MAGIC, CUT_OFF, DIRECTION, MESSAGE_TOO_LONG, CAPTURE_TOO_LARGE}
use Rattle.fa_capture.specs.declared.limits.TheConstants.{MAX_MESSAGES, MAX_MESSAGE_BYTES, MAX_CAPTURE_BYTES}
use Rattle.fa_capture.specs.declared.format.Format.{Format}
use Rattle.fa_capture.specs.declared.format.Format.TheVariants.{Plain, Timed}
use Rattle.fa_capture.specs.declared.fault.CaptureFault.{CaptureFault}
use Rattle.fa_capture.specs.declared.migration.MigrateError.{MigrateError}
use Rattle.fa_capture.specs.declared.migration.MigrateError.TheVariants.{Fault, Memory}
use Rattle.fa_capture.specs.Checks.{FirstFailure}
use Rattle.fa_capture.specs.Message.{Message, Recorded, without_times}
use Rattle.fa_capture.specs.Framing.{magic, IsTime, record_spelling, capture_spelling, counted_bytes, IsFramed, BeginsWith}

-- the bytes begin as a capture in this format does
abbrev pub IsInFormat : Format → List ℕ → Type 0
IsInFormat format bytes = (rest : List ℕ) × (bytes ≡ magic format ++ rest)

-- the bytes begin as a capture does
abbrev pub HasMagic : List ℕ → Type 0
HasMagic bytes = (format : Format) × IsInFormat format bytes

-- how many bytes of a record stand before its message
abbrev pub header_size : Format → ℕ
header_size Plain = 5
header_size Timed = 13

-- the length that a record states, in the last four bytes before its message
abbrev pub stated_length : Format → List ℕ → ℕ
stated_length Plain left = from_le_bytes w32 (take 4 (drop 1 left))
stated_length Timed left = from_le_bytes w32 (take 4 (drop 9 left))

-- The checks of the record that stands at the front of the bytes that are left, in their order, where
-- `before` records came before it and `counted` bytes count before it. Its time counts for no limit.
abbrev pub record_checks : Format → (before counted : ℕ) → (left : List ℕ) → List (ℕ × Type 0)
record_checks format before counted left =
    (CAPTURE_TOO_LARGE, before < MAX_MESSAGES)
    ∷ (DIRECTION, slice_index left 0 ≤ 1)
    ∷ (CUT_OFF, header_size format ≤ length left)
    ∷ (MESSAGE_TOO_LONG, stated_length format left ≤ MAX_MESSAGE_BYTES)
    ∷ (CAPTURE_TOO_LARGE, counted + 5 + stated_length format left ≤ MAX_CAPTURE_BYTES)
    ∷ (CUT_OFF, header_size format + stated_length format left ≤ length left)
    ∷ []

-- A whole record of this message stands at the front of the bytes that are left, and these bytes after it, and
-- the record is within the limits, where `before` records came before it and `counted` bytes count before it.
pub record IsRecord (format : Format) (before counted : ℕ) (left : List ℕ) (r : Recorded) (after : List ℕ) : Type 0 where
  pub spelled : left ≡ record_spelling format r ++ after
  pub time : IsTime format r.time
  pub count : before < MAX_MESSAGES
  pub bytes : length r.message.bytes ≤ MAX_MESSAGE_BYTES
  pub size : counted + 5 + length r.message.bytes ≤ MAX_CAPTURE_BYTES

-- The records: the longest framed list whose spelling the bytes begin with. Without a magic there are none.
pub record AreRecords (bytes : List ℕ) (rs : List Recorded) : Type 0 where
  pub framed : IsFramed (without_times rs)
  pub spelled : (format : Format) → IsInFormat format bytes → BeginsWith format bytes rs
  pub longest : (format : Format) (others : List Recorded) → IsFramed (without_times others) → BeginsWith format bytes others → length others ≤ length rs
  pub none : (HasMagic bytes → ⊥) → rs ≡ []

-- The framing fault of bytes with these records: none where they spell all of the bytes. Otherwise it
-- stands at the number of records, with the first code that the record there fails; without a magic it
-- is `NO_MAGIC`.
abbrev pub IsFault : List ℕ → List Recorded → Option CaptureFault → Type 0
IsFault bytes rs None = (format : Format) × (bytes ≡ capture_spelling format rs)
IsFault bytes rs (Some fault) =
    (fault.whole ≡ length rs)
    × ((HasMagic bytes → ⊥) → fault.code ≡ NO_MAGIC)
    × ((format : Format) → IsInFormat format bytes → (left : List ℕ) × (left ≢ []) × (bytes ≡ capture_spelling format rs ++ left)
    × FirstFailure (record_checks format (length rs) (counted_bytes (without_times rs)) left) fault.code)

-- what a capture's bytes hold, with the times
pub record IsRecording (bytes : List ℕ) (rs : List Recorded) (fault : Option CaptureFault) : Type 0 where
  pub records : AreRecords bytes rs
  pub ended : IsFault bytes rs fault

-- what they hold without the times: all that a verdict sees of a capture
abbrev pub IsReading : List ℕ → List Message → Option CaptureFault → Type 0
IsReading bytes ms fault = (rs : List Recorded) × (without_times rs ≡ ms) × IsRecording bytes rs fault

-- The front of a capture, by how many messages it has at most: the bytes begin as a capture does, and whatever they hold, the front
-- holds the first so many of these records, or all where there are fewer, in the same format, and has no fault.
pub record IsFrontOf (bytes : List ℕ) (messages : ℕ) (front : List ℕ) : Type 0 where
  pub begins : HasMagic bytes
  pub same_format : (format : Format) → IsInFormat format bytes → IsInFormat format front
  pub holds : (rs : List Recorded) (fault : Option CaptureFault) → IsRecording bytes rs fault → IsRecording front (take messages rs) None

-- the capture with times that holds what the bytes hold, where these have no fault
pub record IsMigrated (bytes migrated : List ℕ) : Type 0 where
  pub records : List Recorded
  pub hold : IsRecording bytes records None
  pub spelled : migrated ≡ capture_spelling Timed records

-- why bytes are not migrated: they have this framing fault, or they have none and memory was refused
abbrev pub IsMigrateError : List ℕ → MigrateError → Type 0
IsMigrateError bytes (Fault fault) = (ms : List Message) × IsReading bytes ms (Some fault)
IsMigrateError bytes Memory = (ms : List Message) × IsReading bytes ms None

-- two readings of the same bytes agree, with their times
abbrev pub OneRecording : Type 0
OneRecording = (bytes : List ℕ) (rs others : List Recorded) (fault other : Option CaptureFault) → IsRecording bytes rs fault → IsRecording bytes others other → (rs ≡ others) × (fault ≡ other)

-- and without them
abbrev pub OneReading : Type 0
OneReading = (bytes : List ℕ) (ms others : List Message) (fault other : Option CaptureFault) → IsReading bytes ms fault → IsReading bytes others other → (ms ≡ others) × (fault ≡ other)

-- Bytes have a reading: a list with a number above 255 is none of bytes.
abbrev pub ReadingIsThere : Type 0
ReadingIsThere = (bytes : List ℕ) → All (λ b. b < 256) bytes → (ms : List Message) × (fault : Option CaptureFault) × IsReading bytes ms fault

-- No time is judged, and times may fall: where the first records of captures differ in their times alone, and the same bytes stand
-- behind them, what the one holds without times the other holds too.
abbrev pub TimesAreNotJudged : Type 0
TimesAreNotJudged =
    (rs others : List Recorded) (behind : List ℕ) (ms : List Message) (fault : Option CaptureFault)
    → IsFramed (without_times rs) → All (λ r. IsTime Timed r.time) rs → All (λ r. IsTime Timed r.time) others → without_times rs ≡ without_times others
    → IsReading (capture_spelling Timed rs ++ behind) ms fault → IsReading (capture_spelling Timed others ++ behind) ms fault

-- a capture with times is migrated to itself
abbrev pub TimesAreKept : Type 0
TimesAreKept = (bytes migrated : List ℕ) → IsInFormat Timed bytes → IsMigrated bytes migrated → migrated ≡ bytes

-- a migrated capture holds the records of the one that it was made of, with the times that these had, and no fault
abbrev pub MigratedHoldsTheSame : Type 0
MigratedHoldsTheSame = (bytes migrated : List ℕ) (rs : List Recorded) → IsMigrated bytes migrated → IsRecording bytes rs None → IsRecording migrated rs None
