-- Bytes have a reading: record after record, up to the first that fails a check or the end.
use Rattle.std.proofs.Common.{◌≡◌, ℕ, zero, suc, ◌+◌, ◌^◌, ◌<◌, ◌≤◌, ◌⊎◌, List, [], ◌∷◌, ◌++◌, length, take, drop, get_or, Option, Some, None, refl, sym, ap, subst, ◌∙◌, inl, inr, arith}
use Rattle.std.specs.Prelude.{All, slice_index}
use Rattle.std.specs.Int.{w32, w64, to_le_bytes, from_le_bytes}
use Rattle.std.proofs.lemmas.Bool.{cases_lt}
use Rattle.std.proofs.lemmas.List.{length-take, length-drop, take-append-drop}
use Rattle.std.proofs.lemmas.List.Elements.{All-head, All-tail, All-take, All-drop}
use Rattle.fa_capture.specs.declared.codes.TheConstants.{NO_MAGIC}
use Rattle.fa_capture.specs.declared.limits.TheConstants.{MAX_MESSAGES, MAX_MESSAGE_BYTES, MAX_CAPTURE_BYTES}
use Rattle.fa_capture.specs.declared.format.Format.{Format}
use Rattle.fa_capture.specs.declared.format.Format.TheVariants.{Plain, Timed}
use Rattle.fa_capture.specs.declared.packet.Direction.{Direction}
use Rattle.fa_capture.specs.declared.packet.Direction.TheVariants.{ToServer, FromServer}
use Rattle.fa_capture.specs.declared.fault.CaptureFault.{CaptureFault}
use Rattle.fa_capture.specs.Checks.{FirstFailure, AllHold}
use Rattle.fa_capture.specs.Message.{Message, Recorded, without_times}
use Rattle.fa_capture.specs.Framing.{magic, direction_byte, time_spelling, IsTime, record_spelling, counted_bytes}
use Rattle.fa_capture.specs.Reading.{header_size, stated_length, record_checks, IsRecord, IsReading, IsRecording, ReadingIsThere}
use Rattle.fa_capture.proofs.ChecksLemmas.{decided_either}
use Rattle.fa_capture.proofs.FramingLemmas.{AreSmall, spelled_4, spelled_8}
use Rattle.fa_capture.proofs.ReadingLemmas.{IsSoFar, none_so_far, so_far_more, record_behind, stated_there, header_length, reads_whole, reads_fault, reads_without, magic_or_not}

-- ---- one record

-- a number is at most another or is not
at_most : (a b : ℕ) → (a ≤ b) ⊎ ¬ (a ≤ b)
at_most a b = elim (cases_lt b a) [ inl more ↦ inr (λ within. omega (arith, more, within)) | inr within ↦ inl within ]

-- the checks of a record hold, or one is the first that fails
record_either : (format : Format) (before counted : ℕ) (left : List ℕ) → AllHold (record_checks format before counted left) ⊎ ((code : ℕ) × FirstFailure (record_checks format before counted left) code)
record_either format before counted left =
    decided_either (record_checks format before counted left) (
      at_most (suc before) MAX_MESSAGES,
      (
        at_most (slice_index left 0) 1,
        (
          at_most (header_size format) (length left),
          (
            at_most (stated_length format left) MAX_MESSAGE_BYTES,
            (at_most (counted + 5 + stated_length format left) MAX_CAPTURE_BYTES, (at_most (header_size format + stated_length format left) (length left), tt)),
          ),
        ),
      ),
    )

-- the direction of a byte
way_of : (d : ℕ) → d ≤ 1 → (way : Direction) × (direction_byte way ≡ d)
way_of zero within = (ToServer, refl)
way_of (suc d) within = (FromServer, omega (arith, within))

-- what stands at any place of bytes, and behind them, is below 256
small_there : (bytes : List ℕ) → All (λ b. b < 256) bytes → (i : ℕ) → get_or bytes i 0 < 256
small_there [] small i = omega arith
small_there (b ∷ bytes) small zero = All-head (λ b. b < 256) b bytes small
small_there (b ∷ bytes) small (suc i) = small_there bytes (All-tail (λ b. b < 256) b bytes small) i

-- a header at the front of bytes: a direction, a time and a length, and what stands behind them
record Header (format : Format) (left : List ℕ) : Type 0 where
  direction : ℕ
  time : ℕ
  stated : ℕ
  body : List ℕ
  is_time : IsTime format time
  fits : stated < 2 ^ 32
  spelled : left ≡ direction ∷ time_spelling format time ++ (to_le_bytes w32 stated ++ body)
  small : All (λ b. b < 256) body

-- numbers of so many bytes are below
below_4 : (xs : List ℕ) → AreSmall xs → from_le_bytes w32 xs < 2 ^ 32
below_4 xs small = omega (arith, small 0, small 1, small 2, small 3)

below_8 : (xs : List ℕ) → AreSmall xs → from_le_bytes w64 xs < 2 ^ 64
below_8 xs small = omega (arith, small 0, small 1, small 2, small 3, small 4, small 5, small 6, small 7)

-- where enough bytes are left there is one
header_there : (format : Format) (left : List ℕ) → All (λ b. b < 256) left → header_size format ≤ length left → Header format left
header_there Plain [] small long = absurd (omega (arith, long))
header_there Timed [] small long = absurd (omega (arith, long))
header_there Plain (d ∷ left) small long =
    let behind : All (λ b. b < 256) left = All-tail (λ b. b < 256) d left small in
    let n : ℕ = from_le_bytes w32 (take 4 left) in
    record {
      direction = d;
      time = 0;
      stated = n;
      body = drop 4 left;
      is_time = refl;
      fits = below_4 (take 4 left) (small_there (take 4 left) (All-take (λ b. b < 256) 4 left behind));
      spelled = ap (λ (xs : List ℕ). d ∷ xs) (spelled_4 left (take 4 left) (drop 4 left) n (small_there left behind) refl refl (omega (arith, length-drop 4 left, long)) refl);
      small = All-drop (λ b. b < 256) 4 left behind;
    }
header_there Timed (d ∷ left) small long =
    let behind : All (λ b. b < 256) left = All-tail (λ b. b < 256) d left small in
    let rest : List ℕ = drop 8 left in
    let rest_small : All (λ b. b < 256) rest = All-drop (λ b. b < 256) 8 left behind in
    let t : ℕ = from_le_bytes w64 (take 8 left) in
    let n : ℕ = from_le_bytes w32 (take 4 rest) in
    let timed : left ≡ to_le_bytes w64 t ++ rest = spelled_8 left (take 8 left) rest t (small_there left behind) refl refl (omega (arith, length-drop 8 left, long)) refl in
    let stating : rest ≡ to_le_bytes w32 n ++ drop 4 rest = spelled_4 rest (take 4 rest) (drop 4 rest) n (small_there rest rest_small) refl refl (omega (arith, length-drop 8 left, length-drop 4 rest, long)) refl in
    record {
      direction = d;
      time = t;
      stated = n;
      body = drop 4 rest;
      is_time = below_8 (take 8 left) (small_there (take 8 left) (All-take (λ b. b < 256) 8 left behind));
      fits = below_4 (take 4 rest) (small_there (take 4 rest) (All-take (λ b. b < 256) 4 rest rest_small));
      spelled = ap (λ (xs : List ℕ). d ∷ xs) (timed ∙ ap (λ (xs : List ℕ). to_le_bytes w64 t ++ xs) stating);
      small = All-drop (λ b. b < 256) 4 rest rest_small;
    }

-- a record within the limits, and bytes behind it
record Found (format : Format) (before counted : ℕ) (left : List ℕ) : Type 0 where
  r : Recorded
  after : List ℕ
  is : IsRecord format before counted left r after
  small : All (λ b. b < 256) after
  shorter : length after < length left

header_some : (format : Format) → 0 < header_size format
header_some Plain = omega arith
header_some Timed = omega arith

-- where the checks hold there is one
found_there : (format : Format) (before counted : ℕ) (left : List ℕ) → All (λ b. b < 256) left → AllHold (record_checks format before counted left) → Found format before counted left
found_there format before counted left small hold =
    let h = header_there format left small hold.1.1.0 in
    let n : ℕ = h.stated in
    let first : slice_index left 0 ≡ h.direction = ap (λ (l : List ℕ). slice_index l 0) h.spelled in
    let way = way_of h.direction (omega (arith, hold.1.0, first)) in
    let stated : stated_length format left ≡ n = ap (stated_length format) h.spelled ∙ stated_there format h.direction h.time n h.body h.fits in
    let wide : length left ≡ header_size format + length h.body = ap length h.spelled ∙ header_length format h.direction h.time n h.body in
    let short : n ≤ MAX_MESSAGE_BYTES = omega (arith, stated, hold.1.1.1.0) in
    let counts : counted + 5 + n ≤ MAX_CAPTURE_BYTES = omega (arith, stated, hold.1.1.1.1.0) in
    let long : n ≤ length h.body = omega (arith, stated, wide, hold.1.1.1.1.1.0) in
    let r : Recorded = record { message = record { direction = way.0; bytes = take n h.body }; time = h.time } in
    let after : List ℕ = drop n h.body in
    let size : length r.message.bytes ≡ n = omega (arith, length-take n h.body, long) in
    let whole : r.message.bytes ++ after ≡ h.body = take-append-drop n h.body in
    let again : List ℕ → List ℕ = λ xs. time_spelling format h.time ++ (to_le_bytes w32 n ++ xs) in
    let spelled : left ≡ record_spelling format r ++ after =
    h.spelled ∙ ap (λ (d : ℕ). d ∷ again h.body) (sym way.1) ∙ ap (λ (xs : List ℕ). direction_byte way.0 ∷ again xs) (sym whole)
    ∙ ap (λ (k : ℕ). direction_byte way.0 ∷ time_spelling format h.time ++ (to_le_bytes w32 k ++ (r.message.bytes ++ after))) (sym size) ∙ sym (record_behind format r after) in
    record {
      r = r;
      after = after;
      is = record {
        spelled = spelled;
        time = h.is_time;
        count = hold.0;
        bytes = omega (arith, size, short);
        size = omega (arith, size, counts);
      };
      small = All-drop (λ b. b < 256) n h.body h.small;
      shorter = omega (arith, length-drop n h.body, wide, header_some format);
    }

-- ---- record after record

-- the bytes have a reading
abbrev Reads : List ℕ → Type 0
Reads bytes = (ms : List Message) × (fault : Option CaptureFault) × IsReading bytes ms fault

-- with times
recorded_reads : (bytes : List ℕ) (rs : List Recorded) (fault : Option CaptureFault) → IsRecording bytes rs fault → Reads bytes
recorded_reads bytes rs fault r = (without_times rs, fault, (rs, refl, r))

-- behind these records, where fewer than so many bytes are left
reads_on : (n : ℕ) (format : Format) (bytes left : List ℕ) (rs : List Recorded) → length left < n → All (λ b. b < 256) left → IsSoFar format bytes rs left → Reads bytes
reads_on zero format bytes left rs short small so_far = absurd (omega (arith, short))
reads_on (suc n) format bytes [] rs short small so_far = recorded_reads bytes rs None (reads_whole format bytes rs so_far)
reads_on (suc n) format bytes (b ∷ left) rs short small so_far =
    elim (record_either format (length rs) (counted_bytes (without_times rs)) (b ∷ left)) [
      | inr fails ↦ recorded_reads bytes rs (Some (record { whole = length rs; code = fails.0 })) (reads_fault format bytes (b ∷ left) rs fails.0 so_far (λ none. absurd cc) fails.1)
      | inl hold ↦
          let next = found_there format (length rs) (counted_bytes (without_times rs)) (b ∷ left) small hold in
          reads_on n format bytes next.after (rs ++ next.r ∷ []) (omega (arith, short, next.shorter)) next.small (so_far_more format bytes (b ∷ left) next.after rs next.r so_far next.is)
    ]

magic_small : (format : Format) (left : List ℕ) → All (λ b. b < 256) (magic format ++ left) → All (λ b. b < 256) left
magic_small Plain left small = All-drop (λ b. b < 256) 8 (magic Plain ++ left) small
magic_small Timed left small = All-drop (λ b. b < 256) 8 (magic Timed ++ left) small

pub reading_is_there : ReadingIsThere
reading_is_there bytes small =
    elim (magic_or_not bytes) [
      | inr without ↦ recorded_reads bytes [] (Some (record { whole = 0; code = NO_MAGIC })) (reads_without bytes without)
      | inl has ↦
          let format = has.0 in
          let left = has.1.0 in
          let left_small : All (λ b. b < 256) left = magic_small format left (subst (All (λ b. b < 256)) has.1.1 small) in
          reads_on (suc (length left)) format bytes left [] (omega arith) left_small (none_so_far format bytes left has.1.1)
    ]
