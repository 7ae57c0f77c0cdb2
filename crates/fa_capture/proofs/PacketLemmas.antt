-- The packets that bytes hold, taken one after the other.
use Rattle.std.proofs.Common.{◌≡◌, ℕ, ◌+◌, ◌^◌, ◌<◌, ◌≤◌, List, [], ◌∷◌, ◌++◌, length, take, drop, refl, sym, ap, ◌∙◌, arith}
use Rattle.std.specs.List.{flat_map, IsSplitAt}
use Rattle.std.specs.Int.{w32, to_le_bytes}
use Rattle.std.proofs.Math.Logic.{∥∥₁_elim}
use Rattle.std.proofs.Props.{props}
use Rattle.std.proofs.lemmas.List.{length-append, take-append-drop}
use Rattle.std.proofs.lemmas.List.Elements.{recursion_from_All, All-from_recursion}
use Rattle.fa_capture.specs.declared.format.Format.{Format}
use Rattle.fa_capture.specs.declared.limits.TheConstants.{MAX_MESSAGE_BYTES}
use Rattle.fa_capture.specs.Message.{Recorded, recorded}
use Rattle.fa_capture.specs.Framing.{direction_byte, time_spelling, IsTime, record_spelling}
use Rattle.std.specs.Prelude.{Option, None, Some, IsNone}
use Rattle.std.specs.Iterator.{YieldsFirstBy}
use Rattle.fa_capture.specs.declared.packet.Packet.{Packet}
use Rattle.fa_capture.specs.declared.packets.Packets.{Packets}
use Rattle.fa_capture.specs.Captures.{records_left}
use Rattle.fa_capture.specs.Reading.{header_size}
use Rattle.fa_capture.specs.Records.{AreSpelledBy, SpelledRecords, AreSpelled}
use Rattle.fa_capture.specs.parts.RecordsLaws.{SpelledRecords-prop, one_direction, one_length, one_time, one_front, one_message, one_recorded}
use Rattle.fa_capture.proofs.ReadingLemmas.{record_behind, direction_small, header_length}

squash : (A : Type 0) → IsProp ∥ A ∥₁
squash A = hlevel

recorded_set : IsSet (List Recorded)
recorded_set = hlevel props

-- bytes that are records, with these
pub records_held : (format : Format) (bytes : List ℕ) → AreSpelled format bytes → SpelledRecords format bytes
records_held format bytes held = ∥∥₁_elim held (SpelledRecords-prop format bytes) (λ x. (x.0, ∣ x.1 ∣₁))

-- of these bytes no record is the first
abbrev pub HasNoRecord : Format → List ℕ → Type 0
HasNoRecord format bytes = (r : Recorded) (more : List Recorded) → AreSpelledBy format bytes (r ∷ more) → ⊥

none_of : (format : Format) (bytes : List ℕ) (rs : List Recorded) → HasNoRecord format bytes → AreSpelledBy format bytes rs → rs ≡ []
none_of format bytes [] without are = refl
none_of format bytes (r ∷ more) without are = absurd (without r more are)

-- then none is there
pub none_left : (format : Format) (bytes : List ℕ) (records : SpelledRecords format bytes) → HasNoRecord format bytes → records.0 ≡ []
none_left format bytes records without = ∥∥₁_elim records.1 (recorded_set records.0 []) (none_of format bytes records.0 without)

-- the bytes of a first record
first_bytes : (format : Format) (bytes : List ℕ) (r : Recorded) (more : List Recorded) → AreSpelledBy format bytes (r ∷ more)
    → bytes ≡ direction_byte r.message.direction ∷ time_spelling format r.time ++ (to_le_bytes w32 (length r.message.bytes) ++ (r.message.bytes ++ flat_map (record_spelling format) more))
first_bytes format bytes r more are = are.spelled ∙ record_behind format r (flat_map (record_spelling format) more)

short_of : (format : Format) (bytes : List ℕ) (r : Recorded) (more : List Recorded) → AreSpelledBy format bytes (r ∷ more) → length r.message.bytes ≤ MAX_MESSAGE_BYTES
short_of format bytes r more are = are.short 0 r (omega arith)

time_of : (format : Format) (bytes : List ℕ) (r : Recorded) (more : List Recorded) → AreSpelledBy format bytes (r ∷ more) → IsTime format r.time
time_of format bytes r more are = are.times 0 r (omega arith)

-- ---- no record is the first

-- of no bytes
pub of_nothing : (format : Format) (bytes : List ℕ) → length bytes ≡ 0 → HasNoRecord format bytes
of_nothing format bytes none r more are = omega (arith, none, ap length (first_bytes format bytes r more are))

-- where the first byte is no direction
pub of_no_direction : (format : Format) (bytes behind : List ℕ) (b : ℕ) → bytes ≡ b ∷ behind → 1 < b → HasNoRecord format bytes
of_no_direction format bytes behind b is large r more are =
    let e = sym is ∙ first_bytes format bytes r more are in
    let head : b ≡ direction_byte r.message.direction = cc in
    omega (arith, head, large, direction_small r.message.direction)

-- where fewer bytes are there than a header has
pub of_no_header : (format : Format) (bytes behind : List ℕ) (b : ℕ) → bytes ≡ b ∷ behind → length behind + 1 < header_size format → HasNoRecord format bytes
of_no_header format bytes behind b is short r more are =
    omega (
      arith,
      ap length is,
      short,
      ap length (first_bytes format bytes r more are),
      header_length format (direction_byte r.message.direction) r.time (length r.message.bytes) (r.message.bytes ++ flat_map (record_spelling format) more),
    )

-- what a header says of the first record, and what stands behind it
record Begins (format : Format) (r : Recorded) (more : List Recorded) (b time n : ℕ) (body : List ℕ) : Type 0 where
  way : b ≡ direction_byte r.message.direction
  when : time ≡ r.time
  size : n ≡ length r.message.bytes
  parts : body ≡ r.message.bytes ++ flat_map (record_spelling format) more

begins : (format : Format) (bytes behind body : List ℕ) (b time n : ℕ) → bytes ≡ b ∷ behind → behind ≡ time_spelling format time ++ (to_le_bytes w32 n ++ body) → IsTime format time → n < 2 ^ 32
    → (r : Recorded) (more : List Recorded) → AreSpelledBy format bytes (r ∷ more) → Begins format r more b time n body
begins format bytes behind body b time n is header is_time fits r more are =
    let e = sym is ∙ first_bytes format bytes r more are in
    let rest : List ℕ = r.message.bytes ++ flat_map (record_spelling format) more in
    let head : b ≡ direction_byte r.message.direction = cc in
    let tail : behind ≡ time_spelling format r.time ++ (to_le_bytes w32 (length r.message.bytes) ++ rest) = cc in
    let times = one_time format time r.time (to_le_bytes w32 n ++ body) (to_le_bytes w32 (length r.message.bytes) ++ rest) is_time (time_of format bytes r more are) (sym header ∙ tail) in
    let lengths = one_length n (length r.message.bytes) body rest fits (omega (arith, short_of format bytes r more are)) times.1 in
    record { way = head; when = times.0; size = lengths.0; parts = lengths.1 }

-- where fewer bytes are left than it states
pub of_cut : (format : Format) (bytes behind body : List ℕ) (b time n : ℕ) → bytes ≡ b ∷ behind → behind ≡ time_spelling format time ++ (to_le_bytes w32 n ++ body) → IsTime format time → n < 2 ^ 32
    → length body < n → HasNoRecord format bytes
of_cut format bytes behind body b time n is header is_time fits cut r more are =
    let first = begins format bytes behind body b time n is header is_time fits r more are in
    omega (arith, cut, first.size, ap length first.parts, length-append r.message.bytes (flat_map (record_spelling format) more))

-- ---- the first record

-- a packet as it was taken
pub record IsTaken (format : Format) (bytes left : List ℕ) (packet : Recorded) : Type 0 where
  pub behind : List ℕ
  pub body : List ℕ
  pub n : ℕ
  pub is : bytes ≡ direction_byte packet.message.direction ∷ behind
  pub header : behind ≡ time_spelling format packet.time ++ (to_le_bytes w32 n ++ body)
  pub is_time : IsTime format packet.time
  pub fits : n < 2 ^ 32
  pub size : length packet.message.bytes ≡ n
  pub parts : body ≡ packet.message.bytes ++ left

taken : (format : Format) (bytes behind body left : List ℕ) (packet : Recorded) (b n : ℕ) → bytes ≡ b ∷ behind → direction_byte packet.message.direction ≡ b
    → behind ≡ time_spelling format packet.time ++ (to_le_bytes w32 n ++ body) → IsTime format packet.time → n < 2 ^ 32 → length packet.message.bytes ≡ n → body ≡ packet.message.bytes ++ left
    → IsTaken format bytes left packet
taken format bytes behind body left packet b n is way header is_time fits size parts = record {
  behind = behind;
  body = body;
  n = n;
  is = is ∙ ap (λ (d : ℕ). d ∷ behind) (sym way);
  header = header;
  is_time = is_time;
  fits = fits;
  size = size;
  parts = parts;
}

-- two parts at a place, put together
joined : (body front left : List ℕ) (n : ℕ) → front ≡ take n body → left ≡ drop n body → body ≡ front ++ left
joined body front left n front_is left_is = sym (take-append-drop n body) ∙ ap (λ (x : List ℕ). x ++ drop n body) (sym front_is) ∙ ap (λ (x : List ℕ). front ++ x) (sym left_is)

-- from a header and the parts of what stands behind it
pub taken_split : (format : Format) (bytes behind body left : List ℕ) (packet : Recorded) (b n : ℕ) → bytes ≡ b ∷ behind → direction_byte packet.message.direction ≡ b
    → behind ≡ time_spelling format packet.time ++ (to_le_bytes w32 n ++ body) → IsTime format packet.time → n < 2 ^ 32 → IsSplitAt body n packet.message.bytes left → IsTaken format bytes left packet
taken_split format bytes behind body left packet b n is way header is_time fits parts =
    taken format bytes behind body left packet b n is way header is_time fits parts.3 (joined body packet.message.bytes left n parts.1 parts.2)

-- it is the first, and the others are left
first_taken : (format : Format) (bytes left : List ℕ) (packet r : Recorded) (more : List Recorded) → IsTaken format bytes left packet → AreSpelledBy format bytes (r ∷ more)
    → (packet ≡ r) × (left ≡ flat_map (record_spelling format) more)
first_taken format bytes left packet r more is are =
    let first = begins format bytes is.behind is.body (direction_byte packet.message.direction) packet.time is.n is.is is.header is.is_time is.fits r more are in
    let parts = one_front packet.message.bytes r.message.bytes left (flat_map (record_spelling format) more) (is.size ∙ first.size) (sym is.parts ∙ first.parts) in
    (one_recorded packet r (one_message packet.message r.message (one_direction packet.message.direction r.message.direction first.way) parts.0) first.when, parts.1)

-- the others alone
fewer : (format : Format) (bytes left : List ℕ) (r : Recorded) (more : List Recorded) → left ≡ flat_map (record_spelling format) more → AreSpelledBy format bytes (r ∷ more) → AreSpelledBy format left more
fewer format bytes left r more spelled are = record {
  times = All-from_recursion (λ (s : Recorded). IsTime format s.time) more (recursion_from_All (λ (s : Recorded). IsTime format s.time) (r ∷ more) are.times).1;
  short = All-from_recursion (λ (s : Recorded). length s.message.bytes ≤ MAX_MESSAGE_BYTES) more (recursion_from_All (λ (s : Recorded). length s.message.bytes ≤ MAX_MESSAGE_BYTES) (r ∷ more) are.short).1;
  spelled = spelled;
}

some_first : (format : Format) (bytes left : List ℕ) (packet : Recorded) (rs : List Recorded) → IsTaken format bytes left packet → AreSpelledBy format bytes rs → (rs ≡ packet ∷ drop 1 rs) × AreSpelledBy format left (drop 1 rs)
some_first format bytes left packet [] is are = absurd (omega (arith, ap length is.is, ap length are.spelled))
some_first format bytes left packet (r ∷ more) is are =
    let first = first_taken format bytes left packet r more is are in
    (ap (λ (x : Recorded). x ∷ more) (sym first.0), fewer format bytes left r more first.1 are)

first_of : (format : Format) (bytes left : List ℕ) (packet : Recorded) → IsTaken format bytes left packet → (records : SpelledRecords format bytes) → records.0 ≡ packet ∷ drop 1 records.0
first_of format bytes left packet is records = ∥∥₁_elim records.1 (recorded_set records.0 (packet ∷ drop 1 records.0)) (λ are. (some_first format bytes left packet records.0 is are).0)

pub others_of : (format : Format) (bytes left : List ℕ) (packet : Recorded) → IsTaken format bytes left packet → SpelledRecords format bytes → SpelledRecords format left
others_of format bytes left packet is records =
    (drop 1 records.0, ∥∥₁_elim records.1 (squash (AreSpelledBy format left (drop 1 records.0))) (λ are. ∣ (some_first format bytes left packet records.0 is are).1 ∣₁))

pub first_and_others : (format : Format) (bytes left : List ℕ) (packet : Recorded) → IsTaken format bytes left packet → (records : SpelledRecords format bytes) (others : SpelledRecords format left) → records.0 ≡ packet ∷ others.0
unfolding others_of
first_and_others format bytes left packet is records others =
    first_of format bytes left packet is records ∙ ap (λ (x : SpelledRecords format left). packet ∷ x.0) (SpelledRecords-prop format left (others_of format bytes left packet is records) others)

-- ---- what the iterator gives

-- nothing, where nothing is left
pub gives_none : (packets : Packets) (given : Option Packet) → IsNone given → records_left packets ≡ [] → YieldsFirstBy recorded records_left packets given packets
gives_none packets None none nothing = (nothing, nothing)
gives_none packets (Some p) none nothing = absurd cc
