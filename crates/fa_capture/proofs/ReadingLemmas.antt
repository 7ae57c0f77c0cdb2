-- What the loop of the reader knows of a capture's bytes makes a reading of them.
use Rattle.std.proofs.Common.{◌≡◌, ◌≢◌, ℕ, suc, ◌+◌, ◌^◌, ◌<◌, ◌≤◌, List, [], ◌∷◌, ◌++◌, length, take, drop, refl, sym, ap, subst, ◌∙◌, ◌⊎◌, inl, inr, append_assoc, arith, Option, Some, None}
use Rattle.std.specs.Prelude.{Bool, true, false, All}
use Rattle.std.specs.Str.{bytes_eq}
use Rattle.fa_capture.specs.declared.codes.TheConstants.{NO_MAGIC, CAPTURE_TOO_LARGE}
use Rattle.std.specs.List.{flat_map, sum_by, AllByRecursion}
use Rattle.std.specs.Int.{w32, to_le_bytes, from_le_bytes}
use Rattle.std.proofs.lemmas.Bool.{cases_lt}
use Rattle.std.proofs.lemmas.List.{append_cancel_left, append-nil, length-append, take_at, take-append-drop, length-map, map-append}
use Rattle.std.proofs.lemmas.List.Concat.{flat_map-append}
use Rattle.std.proofs.lemmas.List.Elements.{recursion_from_All, All-push}
use Rattle.std.proofs.lemmas.List.Sums.{sum_by-append, sum_by-cons, sum_by_push}
use Rattle.std.proofs.lemmas.Slice.Eq.{bytes_eq-Decides}
use Rattle.std.proofs.lemmas.Nat.{from_le_bytes-to_le_bytes_4}
use Rattle.fa_capture.specs.declared.packet.Direction.{Direction}
use Rattle.fa_capture.specs.declared.packet.Direction.TheVariants.{ToServer, FromServer}
use Rattle.fa_capture.specs.declared.format.Format.{Format}
use Rattle.fa_capture.specs.declared.format.Format.TheVariants.{Plain, Timed}
use Rattle.fa_capture.specs.declared.limits.TheConstants.{MAX_MESSAGES, MAX_MESSAGE_BYTES, MAX_CAPTURE_BYTES}
use Rattle.fa_capture.specs.declared.fault.CaptureFault.{CaptureFault}
use Rattle.fa_capture.specs.Checks.{FirstFailure, AllHold}
use Rattle.fa_capture.specs.declared.packet.Packet.{Packet}
use Rattle.fa_capture.specs.Message.{Message, message, messages, Recorded, recorded, recordings, without_times}
use Rattle.fa_capture.specs.Framing.{magic, direction_byte, time_spelling, IsTime, record_spelling, capture_spelling, counted_bytes, IsFramed, BeginsWith}
use Rattle.fa_capture.specs.Reading.{IsInFormat, HasMagic, header_size, stated_length, record_checks, IsRecord, AreRecords, IsFault, IsRecording, IsReading, OneRecording, OneReading}
use Rattle.fa_capture.specs.Walks.{PlainWalk, HaveRead}
use Rattle.fa_capture.proofs.ChecksLemmas.{no_failure, one_failure}
use Rattle.fa_capture.proofs.FramingLemmas.{Fits, one_format, same_records, next_record}

fit_by_limit : (format : Format) (rs : List Recorded) → AllByRecursion (λ m. length m.bytes ≤ MAX_MESSAGE_BYTES) (without_times rs) → AllByRecursion (λ r. IsTime format r.time) rs → AllByRecursion (Fits format) rs
fit_by_limit format [] each times = tt
fit_by_limit format (r ∷ rs) each times = ((omega (arith, each.0), times.0), fit_by_limit format rs each.1 times.1)

-- what each record says has its bytes
pub framed_fit : (format : Format) (rs : List Recorded) → IsFramed (without_times rs) → All (λ r. IsTime format r.time) rs → AllByRecursion (Fits format) rs
framed_fit format rs framed times =
    fit_by_limit format rs (recursion_from_All (λ (m : Message). length m.bytes ≤ MAX_MESSAGE_BYTES) (without_times rs) framed.each) (recursion_from_All (λ (r : Recorded). IsTime format r.time) rs times)

pub direction_small : (d : Direction) → direction_byte d ≤ 1
direction_small ToServer = omega arith
direction_small FromServer = omega arith

-- the length that stands behind a direction and a time
pub stated_there : (format : Format) (d time n : ℕ) (y : List ℕ) → n < 2 ^ 32 → stated_length format (d ∷ time_spelling format time ++ (to_le_bytes w32 n ++ y)) ≡ n
stated_there Plain d time n y fits =
    let four : take 4 (drop 1 (d ∷ time_spelling Plain time ++ (to_le_bytes w32 n ++ y))) ≡ to_le_bytes w32 n = refl in
    ap (from_le_bytes w32) four ∙ from_le_bytes-to_le_bytes_4 n fits
stated_there Timed d time n y fits =
    let four : take 4 (drop 9 (d ∷ time_spelling Timed time ++ (to_le_bytes w32 n ++ y))) ≡ to_le_bytes w32 n = refl in
    ap (from_le_bytes w32) four ∙ from_le_bytes-to_le_bytes_4 n fits

-- a record, and what follows: the direction, the time, the length, and the rest
pub record_behind : (format : Format) (r : Recorded) (y : List ℕ)
    → record_spelling format r ++ y ≡ direction_byte r.message.direction ∷ time_spelling format r.time ++ (to_le_bytes w32 (length r.message.bytes) ++ (r.message.bytes ++ y))
record_behind format r y = ap (λ (l : List ℕ). direction_byte r.message.direction ∷ l) (append_assoc (time_spelling format r.time) (to_le_bytes w32 (length r.message.bytes) ++ r.message.bytes) y)

-- the length that a record states
stated_is : (format : Format) (r : Recorded) (y : List ℕ) → length r.message.bytes < 2 ^ 32 → stated_length format (record_spelling format r ++ y) ≡ length r.message.bytes
stated_is format r y fits =
    ap (stated_length format) (record_behind format r y) ∙ stated_there format (direction_byte r.message.direction) r.time (length r.message.bytes) (r.message.bytes ++ y) fits

-- how long a header and what stands behind it are
pub header_length : (format : Format) (d time n : ℕ) (y : List ℕ) → length (d ∷ time_spelling format time ++ (to_le_bytes w32 n ++ y)) ≡ header_size format + length y
header_length Plain d time n y = omega (arith, length-append (to_le_bytes w32 n) y)
header_length Timed d time n y = omega (arith, length-append (to_le_bytes w32 n) y)

pub record_length : (format : Format) (r : Recorded) → length (record_spelling format r) ≡ header_size format + length r.message.bytes
record_length format r = header_length format (direction_byte r.message.direction) r.time (length r.message.bytes) r.message.bytes

header_some : (format : Format) → 0 < header_size format
header_some Plain = omega arith
header_some Timed = omega arith

-- how many bytes one message more counts
pub counted_more : (ms : List Message) (m : Message) → counted_bytes (ms ++ m ∷ []) ≡ counted_bytes ms + 5 + length m.bytes
counted_more ms m = omega (arith, sum_by_push (λ (m : Message). 5 + length m.bytes) ms m)

-- the records, and one more: their spelling
pub spelled_on : (format : Format) (rs more : List Recorded) (r : Recorded)
    → capture_spelling format (rs ++ r ∷ more) ≡ capture_spelling format rs ++ (record_spelling format r ++ flat_map (record_spelling format) more)
spelled_on format rs more r =
    ap (λ (x : List ℕ). magic format ++ x) (flat_map-append (record_spelling format) rs (r ∷ more))
    ∙ sym (append_assoc (magic format) (flat_map (record_spelling format) rs) (record_spelling format r ++ flat_map (record_spelling format) more))

pub one_of : (ms more : List Message) (m : Message) → AllByRecursion (λ m. length m.bytes ≤ MAX_MESSAGE_BYTES) (ms ++ m ∷ more) → length m.bytes ≤ MAX_MESSAGE_BYTES
one_of [] more m each = each.0
one_of (n ∷ ms) more m each = one_of ms more m each.1

-- the messages of the records, and of one more
pub messages_on : (rs more : List Recorded) (r : Recorded) → without_times (rs ++ r ∷ more) ≡ without_times rs ++ r.message ∷ without_times more
messages_on rs more r = map-append (λ (r : Recorded). r.message) rs (r ∷ more)

-- as many messages as records
pub records_length : (rs : List Recorded) → length (without_times rs) ≡ length rs
records_length rs = length-map rs (λ (r : Recorded). r.message)

-- a record within the limits passes each check
checks_hold : (format : Format) (rs more : List Recorded) (r : Recorded) (y : List ℕ) → IsFramed (without_times (rs ++ r ∷ more))
    → AllHold (record_checks format (length rs) (counted_bytes (without_times rs)) (record_spelling format r ++ y))
checks_hold format rs more r y there =
    let ms = without_times rs in
    let m = r.message in
    let framed : IsFramed (ms ++ m ∷ without_times more) = subst IsFramed (messages_on rs more r) there in
    let each = recursion_from_All (λ (m : Message). length m.bytes ≤ MAX_MESSAGE_BYTES) (ms ++ m ∷ without_times more) framed.each in
    let short : length m.bytes ≤ MAX_MESSAGE_BYTES = one_of ms (without_times more) m each in
    let stated : stated_length format (record_spelling format r ++ y) ≡ length m.bytes = stated_is format r y (omega (arith, short)) in
    let long : length (record_spelling format r ++ y) ≡ length (record_spelling format r) + length y = length-append (record_spelling format r) y in
    let wide : length (record_spelling format r) ≡ header_size format + length m.bytes = record_length format r in
    let size_of : Message → ℕ = λ m. 5 + length m.bytes in
    let sum : sum_by size_of (ms ++ m ∷ without_times more) ≡ sum_by size_of ms + sum_by size_of (m ∷ without_times more) = sum_by-append size_of ms (m ∷ without_times more) in
    let behind : sum_by size_of (m ∷ without_times more) ≡ 5 + length m.bytes + sum_by size_of (without_times more) = sum_by-cons size_of m (without_times more) in
    let size : counted_bytes (ms ++ m ∷ without_times more) ≤ MAX_CAPTURE_BYTES = framed.size in
    let few : length (ms ++ m ∷ without_times more) ≤ MAX_MESSAGES = framed.count in
    let counted : length (ms ++ m ∷ without_times more) ≡ length ms + suc (length (without_times more)) = length-append ms (m ∷ without_times more) in (
      omega (arith, few, counted, records_length rs),
      (direction_small m.direction, (omega (arith, long, wide), (rw stated short, (rw stated (omega (arith, sum, behind, size)), (rw stated (omega (arith, long, wide)), tt))))),
    )

-- the bytes behind these records begin no record: none is left, or the record there fails a check
abbrev pub EndsAt : Format → List Recorded → List ℕ → Type 0
EndsAt format rs left = (left ≡ []) ⊎ ((code : ℕ) × FirstFailure (record_checks format (length rs) (counted_bytes (without_times rs)) left) code)

-- without the magic in front
pub behind_magic : (format : Format) (rs others : List Recorded) (x y : List ℕ) → capture_spelling format rs ++ x ≡ capture_spelling format others ++ y
    → flat_map (record_spelling format) rs ++ x ≡ flat_map (record_spelling format) others ++ y
behind_magic format rs others x y e =
    append_cancel_left (magic format) (flat_map (record_spelling format) rs ++ x) (flat_map (record_spelling format) others ++ y)
    (sym (append_assoc (magic format) (flat_map (record_spelling format) rs) x) ∙ e ∙ append_assoc (magic format) (flat_map (record_spelling format) others) y)

no_record : (format : Format) (rs more : List Recorded) (r : Recorded) (x y : List ℕ) → IsFramed (without_times (rs ++ r ∷ more)) → EndsAt format rs x → x ≡ record_spelling format r ++ y → ⊥
no_record format rs more r x y framed ends e =
    elim ends [
      | inl none ↦ let long : length x ≡ length (record_spelling format r) + length y = ap length e ∙ length-append (record_spelling format r) y in
          let nothing : length x ≡ 0 = ap length none in
          omega (arith, long, nothing, record_length format r, header_some format)
      | inr fails ↦ no_failure (record_checks format (length rs) (counted_bytes (without_times rs)) (record_spelling format r ++ y)) fails.0 (checks_hold format rs more r y framed)
          (subst (λ (l : List ℕ). FirstFailure (record_checks format (length rs) (counted_bytes (without_times rs)) l) fails.0) e fails.1)
    ]

-- ---- the records so far

-- these records stand between the magic and what is left, and are within the limits
pub record IsSoFar (format : Format) (bytes : List ℕ) (rs : List Recorded) (left : List ℕ) : Type 0 where
  pub framed : IsFramed (without_times rs)
  pub times : All (λ r. IsTime format r.time) rs
  pub spelled : bytes ≡ capture_spelling format rs ++ left

-- what the records spell begins with the magic
pub in_format : (format : Format) (bytes : List ℕ) (rs : List Recorded) (left : List ℕ) → bytes ≡ capture_spelling format rs ++ left → IsInFormat format bytes
in_format format bytes rs left e = (flat_map (record_spelling format) rs ++ left, e ∙ append_assoc (magic format) (flat_map (record_spelling format) rs) left)

pub has_magic : (format : Format) (bytes : List ℕ) (rs : List Recorded) (left : List ℕ) → bytes ≡ capture_spelling format rs ++ left → HasMagic bytes
has_magic format bytes rs left e = (format, in_format format bytes rs left e)

-- bytes are in one format
pub same_format : (f g : Format) (bytes : List ℕ) → IsInFormat f bytes → IsInFormat g bytes → f ≡ g
same_format f g bytes a b = one_format f g a.0 b.0 (sym a.1 ∙ b.1)

begins_so : (format : Format) (bytes : List ℕ) (rs : List Recorded) (left : List ℕ) → IsSoFar format bytes rs left → BeginsWith format bytes rs
begins_so format bytes rs left so_far = record { times = so_far.times; rest = left; spelled = so_far.spelled }

-- where they end so, no longer list is at the front of the bytes
pub none_longer : (format : Format) (bytes left : List ℕ) (rs : List Recorded) → IsSoFar format bytes rs left → EndsAt format rs left
    → (others : List Recorded) → IsFramed (without_times others) → BeginsWith format bytes others → length others ≤ length rs
none_longer format bytes left rs so_far ends others others_framed begins =
    elim (cases_lt (length rs) (length others)) [
      | inl longer ↦
          let next = next_record format rs others left begins.rest (framed_fit format rs so_far.framed so_far.times) (framed_fit format others others_framed begins.times) longer
          (behind_magic format rs others left begins.rest (sym so_far.spelled ∙ begins.spelled)) in
          absurd (no_record format rs next.1 next.0 left (flat_map (record_spelling format) next.1 ++ begins.rest) (subst (λ (os : List Recorded). IsFramed (without_times os)) next.2 others_framed) ends next.3)
      | inr le ↦ le
    ]

-- the records, where they end so
are_records : (format : Format) (bytes left : List ℕ) (rs : List Recorded) → IsSoFar format bytes rs left → EndsAt format rs left → AreRecords bytes rs
are_records format bytes left rs so_far ends =
    let here : IsInFormat format bytes = in_format format bytes rs left so_far.spelled in
    record {
      framed = so_far.framed;
      spelled = λ f there. subst (λ (g : Format). BeginsWith g bytes rs) (same_format format f bytes here there) (begins_so format bytes rs left so_far);
      longest = λ f others framed begins.
          let one : f ≡ format = same_format f format bytes (in_format f bytes others begins.rest begins.spelled) here in
          none_longer format bytes left rs so_far ends others framed (subst (λ (g : Format). BeginsWith g bytes others) one begins);
      none = λ without. absurd (without (format, here));
    }

-- a reading with no fault
pub reads_whole : (format : Format) (bytes : List ℕ) (rs : List Recorded) → IsSoFar format bytes rs [] → IsRecording bytes rs None
reads_whole format bytes rs so_far = record {
  records = are_records format bytes [] rs so_far (inl refl);
  ended = (format, so_far.spelled ∙ append-nil (capture_spelling format rs));
}

-- a reading with a fault behind its records
pub reads_fault : (format : Format) (bytes left : List ℕ) (rs : List Recorded) (code : ℕ) → IsSoFar format bytes rs left → left ≢ []
    → FirstFailure (record_checks format (length rs) (counted_bytes (without_times rs)) left) code → IsRecording bytes rs (Some (record { whole = length rs; code = code }))
reads_fault format bytes left rs code so_far some fails =
    let here : IsInFormat format bytes = in_format format bytes rs left so_far.spelled in
    record {
      records = are_records format bytes left rs so_far (inr (code, fails));
      ended = (
        refl,
        (λ without. absurd (without (format, here))),
        λ f there.
            subst (λ (g : Format). (l : List ℕ) × (l ≢ []) × (bytes ≡ capture_spelling g rs ++ l) × FirstFailure (record_checks g (length rs) (counted_bytes (without_times rs)) l) code) (same_format format f bytes here there)
            (left, some, so_far.spelled, fails),
      );
    }

-- no message at all keeps the limits
pub none_framed : IsFramed []
none_framed = record { count = omega arith; each = λ k d below. absurd (omega (arith, below)); size = omega arith }

-- behind the magic no record has been read
pub none_so_far : (format : Format) (bytes left : List ℕ) → bytes ≡ magic format ++ left → IsSoFar format bytes [] left
none_so_far format bytes left e = record {
  framed = none_framed;
  times = λ k d below. absurd (omega (arith, below));
  spelled = e ∙ ap (λ (x : List ℕ). x ++ left) (sym (append-nil (magic format)));
}

-- a reading of bytes without the magic
pub reads_without : (bytes : List ℕ) → (HasMagic bytes → ⊥) → IsRecording bytes [] (Some (record { whole = 0; code = NO_MAGIC }))
reads_without bytes without = record {
  records = record {
    framed = none_framed;
    spelled = λ f there. absurd (without (f, there));
    longest = λ f others framed begins. absurd (without (has_magic f bytes others begins.rest begins.spelled));
    none = λ _. refl;
  };
  ended = (refl, (λ _. refl), λ f there. absurd (without (f, there)));
}

-- one more record
pub so_far_more : (format : Format) (bytes left after : List ℕ) (rs : List Recorded) (r : Recorded) → IsSoFar format bytes rs left
    → IsRecord format (length rs) (counted_bytes (without_times rs)) left r after → IsSoFar format bytes (rs ++ r ∷ []) after
so_far_more format bytes left after rs r so_far is =
    let ms = without_times rs in
    let pushed : without_times (rs ++ r ∷ []) ≡ ms ++ r.message ∷ [] = messages_on rs [] r in
    let count : length (ms ++ r.message ∷ []) ≡ length ms + 1 = length-append ms (r.message ∷ []) in
    let framed : IsFramed (ms ++ r.message ∷ []) = record {
      count = omega (arith, count, records_length rs, is.count);
      each = All-push (λ (m : Message). length m.bytes ≤ MAX_MESSAGE_BYTES) ms r.message so_far.framed.each is.bytes;
      size = omega (arith, counted_more ms r.message, is.size);
    } in
    let one : capture_spelling format (rs ++ r ∷ []) ≡ capture_spelling format rs ++ record_spelling format r =
    spelled_on format rs [] r ∙ ap (λ (x : List ℕ). capture_spelling format rs ++ x) (append-nil (record_spelling format r)) in
    record {
      framed = subst IsFramed (sym pushed) framed;
      times = All-push (λ (r : Recorded). IsTime format r.time) rs r so_far.times is.time;
      spelled = so_far.spelled ∙ ap (λ (x : List ℕ). capture_spelling format rs ++ x) is.spelled ∙ sym (append_assoc (capture_spelling format rs) (record_spelling format r) after) ∙ ap (λ (x : List ℕ). x ++ after) (sym one);
    }

-- ---- two readings agree

-- the first eight bytes decide whether the bytes are in a format
format_of_test : (format : Format) (bytes : List ℕ) (b : Bool) → length (magic format) ≡ 8 → bytes_eq (take 8 bytes) (magic format) ≡ b → IsInFormat format bytes ⊎ (IsInFormat format bytes → ⊥)
format_of_test format bytes true eight e =
    inl (drop 8 bytes, sym (take-append-drop 8 bytes) ∙ ap (λ (x : List ℕ). x ++ drop 8 bytes) ((bytes_eq-Decides (take 8 bytes) (magic format)).0 e))
format_of_test format bytes false eight e =
    inr (λ has. let same : take 8 bytes ≡ magic format = ap (take 8) has.1 ∙ take_at (magic format) has.0 8 eight in
    let test : bytes_eq (take 8 bytes) (magic format) ≡ true = ap (λ (x : List ℕ). bytes_eq x (magic format)) same ∙ (bytes_eq-Decides (magic format) (magic format)).1 refl in
    let clash : false ≡ true = sym e ∙ test in
    absurd (cc))

format_or_not : (format : Format) (bytes : List ℕ) → IsInFormat format bytes ⊎ (IsInFormat format bytes → ⊥)
format_or_not Plain bytes = format_of_test Plain bytes (bytes_eq (take 8 bytes) (magic Plain)) refl refl
format_or_not Timed bytes = format_of_test Timed bytes (bytes_eq (take 8 bytes) (magic Timed)) refl refl

-- neither format
pub no_magic : (bytes : List ℕ) → (IsInFormat Plain bytes → ⊥) → (IsInFormat Timed bytes → ⊥) → HasMagic bytes → ⊥
no_magic bytes no_plain no_timed (Plain, there) = no_plain there
no_magic bytes no_plain no_timed (Timed, there) = no_timed there

pub magic_or_not : (bytes : List ℕ) → HasMagic bytes ⊎ (HasMagic bytes → ⊥)
magic_or_not bytes =
    elim (format_or_not Plain bytes) [
      | inl plain ↦ inl (Plain, plain)
      | inr no_plain ↦ elim (format_or_not Timed bytes) [
        | inl timed ↦ inl (Timed, timed)
        | inr no_timed ↦ inr (no_magic bytes no_plain no_timed)
      ]
    ]

-- a record begins where bytes are left, and none where none are
whole_or_not : (bytes : List ℕ) (rs : List Recorded) (fault : CaptureFault) → IsFault bytes rs None → IsFault bytes rs (Some fault) → ⊥
whole_or_not bytes rs fault (format, whole) f =
    let ended : bytes ≡ capture_spelling format rs ++ [] = whole ∙ sym (append-nil (capture_spelling format rs)) in
    let a = f.2 format (in_format format bytes rs [] ended) in
    a.1 (append_cancel_left (capture_spelling format rs) a.0 [] (sym a.2 ∙ ended))

same_held : (bytes : List ℕ) (rs others : List Recorded) → AreRecords bytes rs → AreRecords bytes others → rs ≡ others
same_held bytes rs others p q =
    elim (magic_or_not bytes) [
      | inl has ↦
          let format = has.0 in
          let a = p.spelled format has.1 in
          let b = q.spelled format has.1 in
          let up : length rs ≤ length others = q.longest format rs p.framed a in
          let down : length others ≤ length rs = p.longest format others q.framed b in
          (same_records format rs others a.rest b.rest (framed_fit format rs p.framed a.times) (framed_fit format others q.framed b.times) (omega (arith, up, down))
          (behind_magic format rs others a.rest b.rest (sym a.spelled ∙ b.spelled))).0
      | inr without ↦ p.none without ∙ sym (q.none without)
    ]

same_fault : (bytes : List ℕ) (rs : List Recorded) (fault other : Option CaptureFault) → IsFault bytes rs fault → IsFault bytes rs other → fault ≡ other
same_fault bytes rs None None f g = refl
same_fault bytes rs None (Some other) f g = absurd (whole_or_not bytes rs other f g)
same_fault bytes rs (Some fault) None f g = absurd (whole_or_not bytes rs fault g f)
same_fault bytes rs (Some fault) (Some other) f g =
    let codes : fault.code ≡ other.code = elim (magic_or_not bytes) [
      | inl has ↦
          let format = has.0 in
          let a = f.2 format has.1 in
          let b = g.2 format has.1 in
          let lefts : a.0 ≡ b.0 = append_cancel_left (capture_spelling format rs) a.0 b.0 (sym a.2 ∙ b.2) in
          let checks : List ℕ → List (ℕ × Type 0) = record_checks format (length rs) (counted_bytes (without_times rs)) in
          one_failure (checks b.0) fault.code other.code (subst (λ (l : List ℕ). FirstFailure (checks l) fault.code) lefts a.3) b.3
      | inr without ↦ f.1 without ∙ sym (g.1 without)
    ] in
    let both : (fault.whole, fault.code) ≡ (other.whole, other.code) = (let wholes : fault.whole ≡ other.whole = f.0 ∙ sym g.0 in cc) in
    let made : ℕ × ℕ → Option CaptureFault = λ p. Some (record { whole = p.0; code = p.1 }) in
    ap made both

-- two recordings of the same bytes agree
pub one_recording : OneRecording
one_recording bytes rs others fault other p q =
    let same : rs ≡ others = same_held bytes rs others p.records q.records in
    (same, same_fault bytes rs fault other p.ended (subst (λ (l : List Recorded). IsFault bytes l other) (sym same) q.ended))

pub one_reading_lem : OneReading
one_reading_lem bytes ms others fault other p q =
    let same = one_recording bytes p.0 q.0 fault other p.2 q.2 in
    (sym p.1 ∙ ap without_times same.0 ∙ q.1, same.1)

-- ---- packets

pub messages_length : (ps : List Packet) → length (messages ps) ≡ length ps
messages_length ps = length-map ps message

pub recordings_length : (ps : List Packet) → length (recordings ps) ≡ length ps
recordings_length ps = length-map ps recorded

-- the messages of packets are those of what was recorded
pub recorded_messages : (ps : List Packet) → without_times (recordings ps) ≡ messages ps
recorded_messages [] = refl
recorded_messages (p ∷ ps) = ap (λ (ms : List Message). message p ∷ ms) (recorded_messages ps)

-- ---- a walk over the records

-- what a walk has read
pub so_far_of : (bytes : List ℕ) (rs : List Recorded) (walk : PlainWalk) → HaveRead bytes rs walk → IsSoFar walk.format bytes rs walk.left
so_far_of bytes rs walk read = record { framed = read.framed; times = read.times; spelled = read.spelled }

-- nothing was read
pub none_read : (format : Format) (bytes left : List ℕ) (counted : ℕ) → bytes ≡ magic format ++ left → counted ≡ 8 → HaveRead bytes [] (record { format = format; count = 0; counted = counted; left = left })
none_read format bytes left counted e eight =
    let so_far = none_so_far format bytes left e in
    record { framed = so_far.framed; times = so_far.times; spelled = so_far.spelled; count_is = refl; counted_is = eight }

-- what the place of a record is, by the records before it
at_place : (P : ℕ → ℕ → Type 0) (bytes : List ℕ) (rs : List Recorded) (walk : PlainWalk) → HaveRead bytes rs walk → P walk.count walk.counted → P (length rs) (counted_bytes (without_times rs))
at_place P bytes rs walk read here = subst (P (length rs)) read.counted_is (subst (λ (n : ℕ). P n walk.counted) read.count_is here)

-- one more record
pub read_more : (bytes after : List ℕ) (rs : List Recorded) (r : Recorded) (walk : PlainWalk) (count counted : ℕ) → HaveRead bytes rs walk
    → IsRecord walk.format walk.count walk.counted walk.left r after → count ≡ walk.count + 1 → counted ≡ walk.counted + (5 + length r.message.bytes)
    → HaveRead bytes (rs ++ r ∷ []) (record { format = walk.format; count = count; counted = counted; left = after })
read_more bytes after rs r walk count counted read is count_is counted_is =
    let there : IsRecord walk.format (length rs) (counted_bytes (without_times rs)) walk.left r after = at_place (λ (m n : ℕ). IsRecord walk.format m n walk.left r after) bytes rs walk read is in
    let so_far = so_far_more walk.format bytes walk.left after rs r (so_far_of bytes rs walk read) there in
    record {
      framed = so_far.framed;
      times = so_far.times;
      spelled = so_far.spelled;
      count_is = omega (arith, count_is, read.count_is, length-append rs (r ∷ []));
      counted_is = omega (arith, counted_is, read.counted_is, ap counted_bytes (messages_on rs [] r), counted_more (without_times rs) r.message);
    }

-- nothing is left
pub read_whole : (bytes : List ℕ) (rs : List Recorded) (walk : PlainWalk) → HaveRead bytes rs walk → walk.left ≡ [] → IsRecording bytes rs None
read_whole bytes rs walk read nothing = reads_whole walk.format bytes rs (subst (IsSoFar walk.format bytes rs) nothing (so_far_of bytes rs walk read))

-- the record behind those that were read fails a check
pub read_to_fault : (bytes : List ℕ) (rs : List Recorded) (walk : PlainWalk) (code : ℕ) → HaveRead bytes rs walk → (length walk.left ≡ 0 → ⊥)
    → FirstFailure (record_checks walk.format walk.count walk.counted walk.left) code → IsRecording bytes rs (Some (record { whole = length rs; code = code }))
read_to_fault bytes rs walk code read some fails =
    reads_fault walk.format bytes walk.left rs code (so_far_of bytes rs walk read) (λ none. some (ap length none))
    (at_place (λ (m n : ℕ). FirstFailure (record_checks walk.format m n walk.left) code) bytes rs walk read fails)

-- a code is one of the framing
abbrev IsFramingCode : ℕ → Type 0
IsFramingCode code = (NO_MAGIC ≤ code) × (code ≤ CAPTURE_TOO_LARGE)

-- the code of each check is
abbrev AreFramingCodes : List (ℕ × Type 0) → Type 0
AreFramingCodes [] = Unit {0}
AreFramingCodes (c ∷ checks) = IsFramingCode c.0 × AreFramingCodes checks

within_codes : (checks : List (ℕ × Type 0)) (code : ℕ) → AreFramingCodes checks → FirstFailure checks code → IsFramingCode code
within_codes [] code coded fails = absurd fails
within_codes (c ∷ checks) code coded fails =
    elim fails [
      | inl here ↦ subst IsFramingCode (sym here.1) coded.0
      | inr past ↦ within_codes checks code coded.1 past.1
    ]

record_coded : (format : Format) (before counted : ℕ) (left : List ℕ) → AreFramingCodes (record_checks format before counted left)
record_coded format before counted left =
    ((omega arith, omega arith), ((omega arith, omega arith), ((omega arith, omega arith), ((omega arith, omega arith), ((omega arith, omega arith), ((omega arith, omega arith), tt))))))

pub fault_coded : (bytes : List ℕ) (rs : List Recorded) (walk : PlainWalk) (f : CaptureFault) → HaveRead bytes rs walk → IsRecording bytes rs (Some f) → (NO_MAGIC ≤ f.code) × (f.code ≤ CAPTURE_TOO_LARGE)
fault_coded bytes rs walk f read r =
    let there = r.ended.2 walk.format (in_format walk.format bytes rs walk.left read.spelled) in
    let counted : ℕ = counted_bytes (without_times rs) in
    within_codes (record_checks walk.format (length rs) counted there.0) f.code (record_coded walk.format (length rs) counted there.0) there.3

-- one more packet
pub packet_more : (bytes : List ℕ) (ps : List Packet) (p : Packet) (old new : PlainWalk) → ((bytes : List ℕ) (rs : List Recorded) → HaveRead bytes rs old → HaveRead bytes (rs ++ recorded p ∷ []) new)
    → HaveRead bytes (recordings ps) old → HaveRead bytes (recordings (ps ++ p ∷ [])) new
packet_more bytes ps p old new more read =
    subst (λ (rs : List Recorded). HaveRead bytes rs new) (sym (map-append recorded ps (p ∷ []))) (more bytes (recordings ps) read)

-- the fault behind them stands at their number
pub fault_at : (bytes : List ℕ) (ps : List Packet) (whole code : ℕ) → whole ≡ length ps → IsRecording bytes (recordings ps) (Some (record { whole = length (recordings ps); code = code }))
    → IsRecording bytes (recordings ps) (Some (record { whole = whole; code = code }))
fault_at bytes ps whole code is r = subst (λ (n : ℕ). IsRecording bytes (recordings ps) (Some (record { whole = n; code = code }))) (recordings_length ps ∙ sym is) r

-- the packets of a walk keep the limits
pub packets_framed : (bytes : List ℕ) (ps : List Packet) (walk : PlainWalk) → HaveRead bytes (recordings ps) walk → IsFramed (messages ps)
packets_framed bytes ps walk read = subst IsFramed (recorded_messages ps) read.framed

-- what was read with its times was read
pub recording_reads : (bytes : List ℕ) (ps : List Packet) (fault : Option CaptureFault) → IsRecording bytes (recordings ps) fault → IsReading bytes (messages ps) fault
recording_reads bytes ps fault r = (recordings ps, recorded_messages ps, r)
