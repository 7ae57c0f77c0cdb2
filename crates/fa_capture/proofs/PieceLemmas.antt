-- Which framing faults bytes have whatever follows them.
use Rattle.std.proofs.Common.{◌≡◌, ◌≢◌, ℕ, ◌+◌, ◌*◌, ◌<◌, ◌≤◌, List, [], ◌∷◌, ◌++◌, length, take, drop, refl, sym, ap, subst, ◌∙◌, inl, inr, append_assoc, arith, Option, Some, None}
use Rattle.std.specs.Prelude.{Bool, true, false, All, slice_index, replicate, IfSome, IsNone}
use Rattle.std.specs.List.{flat_map, starts_with, sum_by}
use Rattle.std.proofs.Math.Seq.{take-append_seam}
use Rattle.std.proofs.Math.Dec.{eqb}
use Rattle.std.proofs.lemmas.Bool.{cases_lt, cases_eq, true≢false}
use Rattle.std.proofs.lemmas.Bool.Decides.{Decides-eqb}
use Rattle.std.proofs.lemmas.Slice.Eq.{starts_is}
use Rattle.std.specs.Int.{w32, from_le_bytes}
use Rattle.std.proofs.lemmas.List.{append_cancel_left, append-nil, length-append, take-append-le, drop-append-le, length-drop, length-replicate, take-append-drop, take_at}
use Rattle.std.proofs.lemmas.List.Sums.{sum_by-cons}
use Rattle.fa_capture.specs.declared.codes.TheConstants.{NO_MAGIC, CUT_OFF}
use Rattle.fa_capture.specs.declared.capture.Capture.{Capture}
use Rattle.fa_capture.specs.declared.input.TheConstants.{MAX_READ_LIMIT}
use Rattle.fa_capture.specs.Captures.{records_of, IsCaptureOf}
use Rattle.fa_capture.proofs.ReadingThereLemmas.{reading_is_there}
use Rattle.fa_capture.specs.declared.fault.CaptureFault.{CaptureFault}
use Rattle.fa_capture.specs.declared.format.Format.{Format}
use Rattle.fa_capture.specs.declared.format.Format.TheVariants.{Plain, Timed}
use Rattle.fa_capture.specs.declared.limits.TheConstants.{MAX_MESSAGES, MAX_MESSAGE_BYTES, MAX_CAPTURE_BYTES}
use Rattle.fa_capture.specs.Checks.{FirstFailure}
use Rattle.fa_capture.specs.Message.{Message, Recorded, without_times}
use Rattle.fa_capture.specs.Framing.{magic, record_spelling, capture_spelling, counted_bytes, IsFramed, IsTime}
use Rattle.fa_capture.specs.Reading.{IsInFormat, HasMagic, header_size, stated_length, record_checks, IsRecording}
use Rattle.fa_capture.specs.Walks.{PlainWalk, HaveRead}
use Rattle.fa_capture.specs.Pieces.{IsDecided, IsOpen, IsToldOf}
use Rattle.fa_capture.specs.parts.Walks.{IsMagicBegun}
use Rattle.std.proofs.lemmas.Option.{same_Some}
use Rattle.fa_capture.proofs.ReadingLemmas.{IsSoFar, one_recording, reads_whole, reads_fault, reads_without, none_so_far, record_length, records_length, magic_or_not, framed_fit, in_format, behind_magic}
use Rattle.fa_capture.specs.parts.RecordsLaws.{next_record, same_records}

-- ---- a check that fails, where more bytes follow

stated_stays : (format : Format) (left rest : List ℕ) → header_size format ≤ length left → stated_length format (left ++ rest) ≡ stated_length format left
stated_stays Plain left rest long =
    ap (λ (l : List ℕ). from_le_bytes w32 (take 4 l)) (drop-append-le 1 left rest (omega (arith, long)))
    ∙ ap (from_le_bytes w32) (take-append-le 4 (drop 1 left) rest (omega (arith, length-drop 1 left, long)))
stated_stays Timed left rest long =
    ap (λ (l : List ℕ). from_le_bytes w32 (take 4 l)) (drop-append-le 9 left rest (omega (arith, long)))
    ∙ ap (from_le_bytes w32) (take-append-le 4 (drop 9 left) rest (omega (arith, length-drop 9 left, long)))

first_stays : (left rest : List ℕ) → left ≢ [] → slice_index (left ++ rest) 0 ≡ slice_index left 0
first_stays [] rest some = absurd (some refl)
first_stays (b ∷ left) rest some = refl

-- a record that fails a check fails it still, but for one that is cut off
failure_stays : (format : Format) (before counted : ℕ) (left rest : List ℕ) (code : ℕ) → left ≢ [] → code ≢ CUT_OFF
    → FirstFailure (record_checks format before counted left) code → FirstFailure (record_checks format before counted (left ++ rest)) code
failure_stays format before counted left rest code some whole fails =
    let long = length-append left rest in
    let first = first_stays left rest some in
    elim fails [
      | inl many ↦ inl many
      | inr p1 ↦ inr (
        p1.0,
        elim p1.1 [
          | inl way ↦ inl ((λ le. way.0 (subst (λ (b : ℕ). b ≤ 1) first le)), way.1)
          | inr p2 ↦ inr (
            subst (λ (b : ℕ). b ≤ 1) (sym first) p2.0,
            elim p2.1 [
              | inl short ↦ absurd (whole short.1)
              | inr p3 ↦
                  let stated = stated_stays format left rest p3.0 in
                  inr (
                    omega (arith, long, p3.0),
                    elim p3.1 [
                      | inl large ↦ inl ((λ le. large.0 (subst (λ (n : ℕ). n ≤ MAX_MESSAGE_BYTES) stated le)), large.1)
                      | inr p4 ↦ inr (
                        subst (λ (n : ℕ). n ≤ MAX_MESSAGE_BYTES) (sym stated) p4.0,
                        elim p4.1 [
                          | inl large ↦ inl ((λ le. large.0 (subst (λ (n : ℕ). counted + 5 + n ≤ MAX_CAPTURE_BYTES) stated le)), large.1)
                          | inr p5 ↦ inr (
                            subst (λ (n : ℕ). counted + 5 + n ≤ MAX_CAPTURE_BYTES) (sym stated) p5.0,
                            elim p5.1 [
                              | inl short ↦ absurd (whole short.1)
                              | inr none ↦ absurd none.1
                            ],
                          )
                        ],
                      )
                    ],
                  )
            ],
          )
        ],
      )
    ]

-- ---- faults that are decided

-- a fault of a record that is not cut off
pub reading_decides : (bytes : List ℕ) (rs : List Recorded) (fault : CaptureFault) → HasMagic bytes → IsRecording bytes rs (Some fault) → fault.code ≢ CUT_OFF → IsDecided bytes fault
reading_decides bytes rs fault (format, here) r whole =
    let begins = r.records.spelled format here in
    let at = r.ended.2 format here in
    let left : List ℕ = at.0 in
    let stays : (rest : List ℕ) → IsRecording (bytes ++ rest) rs (Some (record { whole = length rs; code = fault.code })) = λ rest.
    let so_far : IsSoFar format (bytes ++ rest) rs (left ++ rest) = record {
      framed = r.records.framed;
      times = begins.times;
      spelled = ap (λ (x : List ℕ). x ++ rest) at.2 ∙ append_assoc (capture_spelling format rs) left rest;
    } in
    reads_fault format (bytes ++ rest) (left ++ rest) rs fault.code so_far (λ none. at.1 (front_nil left rest none))
    (failure_stays format (length rs) (counted_bytes (without_times rs)) left rest fault.code at.1 whole at.3) in
    record { records = rs; stays = λ rest. subst (λ (n : ℕ). IsRecording (bytes ++ rest) rs (Some (record { whole = n; code = fault.code }))) (sym r.ended.0) (stays rest) }
  where
    front_nil : (left rest : List ℕ) → left ++ rest ≡ [] → left ≡ []
    front_nil [] rest e = refl
    front_nil (b ∷ left) rest e = absurd (omega (arith, ap length e))

-- bytes that begin with no magic and can't come to
pub other_decides : (bytes : List ℕ) → (HasMagic bytes → ⊥) → ((rest : List ℕ) → HasMagic (bytes ++ rest) → HasMagic bytes) → IsDecided bytes (record { whole = 0; code = NO_MAGIC })
other_decides bytes without never = record { records = []; stays = λ rest. reads_without (bytes ++ rest) (λ has. without (never rest has)) }

-- ---- bytes of which no fault is decided

-- a fault that is decided is that of the bytes
decided_now : (bytes : List ℕ) (rs : List Recorded) (is : Option CaptureFault) (fault : CaptureFault) → IsRecording bytes rs is → IsDecided bytes fault → is ≡ Some fault
decided_now bytes rs is fault r d = (one_recording bytes rs d.records is (Some fault) r (subst (λ (b : List ℕ). IsRecording b d.records (Some fault)) (append-nil bytes) (d.stays []))).1

-- whole records
pub whole_is_open : (bytes : List ℕ) (rs : List Recorded) → IsRecording bytes rs None → IsOpen bytes
whole_is_open bytes rs r fault d = let clash : None ≡ Some fault = decided_now bytes rs None fault r d in absurd cc

header_least : (format : Format) → header_size format ≤ 13
header_least Plain = omega arith
header_least Timed = omega arith

-- a record is not cut off where as many bytes are left as it states
not_cut : (format : Format) (before counted : ℕ) (left : List ℕ) → header_size format + stated_length format left ≤ length left → FirstFailure (record_checks format before counted left) CUT_OFF → ⊥
not_cut format before counted left long fails =
    elim fails [
      | inl many ↦ omega (arith, many.1)
      | inr p1 ↦ elim p1.1 [
        | inl way ↦ omega (arith, way.1)
        | inr p2 ↦ elim p2.1 [
          | inl short ↦ short.0 (omega (arith, long))
          | inr p3 ↦ elim p3.1 [
            | inl large ↦ omega (arith, large.1)
            | inr p4 ↦ elim p4.1 [
              | inl large ↦ omega (arith, large.1)
              | inr p5 ↦ elim p5.1 [
                | inl short ↦ short.0 long
                | inr none ↦ none.1
              ]
            ]
          ]
        ]
      ]
    ]

-- zeros that fill up the header of a record and the message that it then states
abbrev filling : Format → List ℕ → List ℕ
filling format left = replicate 13 0 ++ replicate (stated_length format (left ++ replicate 13 0)) 0

filled : (format : Format) (left : List ℕ) → header_size format + stated_length format (left ++ filling format left) ≤ length (left ++ filling format left)
filled format left =
    let header : List ℕ = left ++ replicate 13 0 in
    let body : List ℕ = replicate (stated_length format header) 0 in
    let joined : left ++ filling format left ≡ header ++ body = sym (append_assoc left (replicate 13 0) body) in
    let long : length header ≡ length left + 13 = length-append left (replicate 13 0) in
    let stated : stated_length format (left ++ filling format left) ≡ stated_length format header =
    ap (stated_length format) joined ∙ stated_stays format header body (omega (arith, header_least format, long)) in
    omega (arith, stated, ap length joined, length-append header body, length-replicate {A = ℕ} (stated_length format header) 0, long, header_least format)

-- a record that is cut off
pub cut_is_open : (bytes : List ℕ) (rs : List Recorded) (fault : CaptureFault) → HasMagic bytes → IsRecording bytes rs (Some fault) → fault.code ≡ CUT_OFF → IsOpen bytes
cut_is_open bytes rs fault (format, here) r cut other d =
    let code : other.code ≡ CUT_OFF = ap (λ (f : CaptureFault). f.code) (sym (same_Some fault other (decided_now bytes rs (Some fault) other r d))) ∙ cut in
    let behind : (rest : List ℕ) → IsInFormat format (bytes ++ rest) = λ rest. (here.0 ++ rest, ap (λ (x : List ℕ). x ++ rest) here.1 ∙ append_assoc (magic format) here.0 rest) in
    let now = (d.stays []).ended.2 format (behind []) in
    let left : List ℕ = now.0 in
    let rest : List ℕ = filling format left in
    let later = (d.stays rest).ended.2 format (behind rest) in
    let spelled : capture_spelling format d.records ++ later.0 ≡ capture_spelling format d.records ++ (left ++ rest) =
    sym later.2 ∙ ap (λ (x : List ℕ). x ++ rest) (sym (append-nil bytes) ∙ now.2) ∙ append_assoc (capture_spelling format d.records) left rest in
    let checks : List ℕ → ℕ → Type 0 = λ l c. FirstFailure (record_checks format (length d.records) (counted_bytes (without_times d.records)) l) c in
    not_cut format (length d.records) (counted_bytes (without_times d.records)) (left ++ rest) (filled format left)
    (subst (checks (left ++ rest)) code (subst (λ (l : List ℕ). checks l other.code) (append_cancel_left (capture_spelling format d.records) later.0 (left ++ rest) spelled) later.3))

-- the start of a magic
pub cut_magic_is_open : (format : Format) (bytes rest : List ℕ) → magic format ≡ bytes ++ rest → IsOpen bytes
cut_magic_is_open format bytes rest e fault d =
    let none : IsRecording (magic format) [] None = reads_whole format (magic format) [] (none_so_far format (magic format) [] (sym (append-nil (magic format)))) in
    let clash : None ≡ Some fault = (one_recording (magic format) [] d.records None (Some fault) none (subst (λ (b : List ℕ). IsRecording b d.records (Some fault)) (sym e) (d.stays rest))).1 in
    absurd cc

-- ---- the first bytes

-- a magic that begins with these bytes
pub starts_magic : (format : Format) (m bytes : List ℕ) (r : Bool) → m ≡ magic format → r ≡ starts_with eqb m bytes → r ≡ true → IsMagicBegun bytes
starts_magic format m bytes r is starts begun = (format, drop (length bytes) m, sym is ∙ (starts_is Decides-eqb m bytes r starts).0 begun)

eight : (format : Format) → length (magic format) ≡ 8
eight Plain = refl
eight Timed = refl

-- one that does not begin with them stands before them, or never
not_begun : (format : Format) (m bytes rest behind : List ℕ) (r : Bool) → m ≡ magic format → r ≡ starts_with eqb m bytes → r ≡ false → bytes ++ rest ≡ magic format ++ behind → HasMagic bytes
not_begun format m bytes rest behind r is starts other e =
    elim (cases_lt (length bytes) 8) [
      | inl short ↦
          let front : bytes ≡ take (length bytes) m =
          sym (take-append_seam bytes rest) ∙ ap (take (length bytes)) (e ∙ ap (λ (x : List ℕ). x ++ behind) (sym is)) ∙ take-append-le (length bytes) m behind (omega (arith, ap length is, eight format, short)) in
          let whole : m ≡ bytes ++ drop (length bytes) m = sym (take-append-drop (length bytes) m) ∙ ap (λ (x : List ℕ). x ++ drop (length bytes) m) (sym front) in
          let begun : r ≡ true = (starts_is Decides-eqb m bytes r starts).1 (drop (length bytes) m) whole in
          absurd (true≢false (sym begun ∙ other))
      | inr long ↦
          let front : take 8 bytes ≡ magic format =
          sym (take-append-le 8 bytes rest (omega (arith, long))) ∙ ap (take 8) e ∙ take_at (magic format) behind 8 (eight format) in
          (format, (drop 8 bytes, sym (take-append-drop 8 bytes) ∙ ap (λ (x : List ℕ). x ++ drop 8 bytes) front))
    ]

pub never_magic : (plain timed bytes : List ℕ) (p t : Bool) → plain ≡ magic Plain → timed ≡ magic Timed → p ≡ starts_with eqb plain bytes → t ≡ starts_with eqb timed bytes → p ≡ false → t ≡ false
    → (rest : List ℕ) → HasMagic (bytes ++ rest) → HasMagic bytes
never_magic plain timed bytes p t plain_is timed_is p_is t_is no_p no_t rest (Plain, (behind, e)) = not_begun Plain plain bytes rest behind p plain_is p_is no_p e
never_magic plain timed bytes p t plain_is timed_is p_is t_is no_p no_t rest (Timed, (behind, e)) = not_begun Timed timed bytes rest behind t timed_is t_is no_t e

pub begun_is_open : (bytes : List ℕ) → IsMagicBegun bytes → IsOpen bytes
begun_is_open bytes (format, rest, e) = cut_magic_is_open format bytes rest e

-- ---- what is known of a capture by its first pieces

-- where a fault is decided, what came is the capture of all that comes
pub decided_capture : (bytes rest : List ℕ) (fault : CaptureFault) (capture : Capture) → IsDecided bytes fault → IsCaptureOf bytes capture → IsCaptureOf (bytes ++ rest) capture
decided_capture bytes rest fault capture d is =
    let now : IsRecording bytes d.records (Some fault) = subst (λ (b : List ℕ). IsRecording b d.records (Some fault)) (append-nil bytes) (d.stays []) in
    let one = one_recording bytes (records_of capture) d.records capture.fault (Some fault) is now in
    subst (λ (rs : List Recorded). IsRecording (bytes ++ rest) rs capture.fault) (sym one.0) (subst (IsRecording (bytes ++ rest) d.records) (sym one.1) (d.stays rest))

-- ---- how many bytes come before a fault is decided

one_length : (format : Format) (r : Recorded) → length (record_spelling format r) ≤ 13 + length r.message.bytes
one_length format r = omega (arith, record_length format r, header_least format)

spelled_length : (format : Format) (rs : List Recorded) → length (flat_map (record_spelling format) rs) ≤ sum_by (λ m. 5 + length m.bytes) (without_times rs) + 8 * length rs
spelled_length format [] = omega arith
spelled_length format (r ∷ rs) =
    omega (arith, one_length format r, length-append (record_spelling format r) (flat_map (record_spelling format) rs), spelled_length format rs, sum_by-cons (λ (m : Message). 5 + length m.bytes) r.message (without_times rs))

capture_length : (format : Format) (rs : List Recorded) → length (capture_spelling format rs) ≤ counted_bytes (without_times rs) + 8 * length rs
capture_length format rs = omega (arith, length-append (magic format) (flat_map (record_spelling format) rs), eight format, spelled_length format rs)

-- eight bytes begin as a capture or never will
magic_in_eight : (bytes : List ℕ) → 8 ≤ length bytes → (rest : List ℕ) → HasMagic (bytes ++ rest) → HasMagic bytes
magic_in_eight bytes long rest (format, (behind, e)) =
    let front : take 8 bytes ≡ magic format = sym (take-append-le 8 bytes rest (omega (arith, long))) ∙ ap (take 8) e ∙ take_at (magic format) behind 8 (eight format) in
    (format, (drop 8 bytes, sym (take-append-drop 8 bytes) ∙ ap (λ (x : List ℕ). x ++ drop 8 bytes) front))

-- bytes that are left of a record that is cut off
cut_length : (format : Format) (before counted : ℕ) (left : List ℕ) → counted ≤ MAX_CAPTURE_BYTES → FirstFailure (record_checks format before counted left) CUT_OFF
    → (before < MAX_MESSAGES) × (counted + length left < MAX_CAPTURE_BYTES + 13)
cut_length format before counted left within fails =
    elim fails [
      | inl many ↦ absurd (omega (arith, many.1))
      | inr p1 ↦ elim p1.1 [
        | inl way ↦ absurd (omega (arith, way.1))
        | inr p2 ↦ elim p2.1 [
          | inl short ↦ (p1.0, omega (arith, short.0, header_least format, within))
          | inr p3 ↦ elim p3.1 [
            | inl large ↦ absurd (omega (arith, large.1))
            | inr p4 ↦ elim p4.1 [
              | inl large ↦ absurd (omega (arith, large.1))
              | inr p5 ↦ elim p5.1 [
                | inl short ↦ (p1.0, omega (arith, short.0, header_least format, p5.0))
                | inr none ↦ absurd none.1
              ]
            ]
          ]
        ]
      ]
    ]

short_at : (bytes : List ℕ) (rs : List Recorded) (fault : CaptureFault) → HasMagic bytes → IsRecording bytes rs (Some fault) → fault.code ≡ CUT_OFF → length bytes < MAX_READ_LIMIT + 65536
short_at bytes rs fault (format, here) r cut =
    let at = r.ended.2 format here in
    let counted : ℕ = counted_bytes (without_times rs) in
    let left = cut_length format (length rs) counted at.0 r.records.framed.size (subst (FirstFailure (record_checks format (length rs) counted at.0)) cut at.3) in
    omega (arith, ap length at.2, length-append (capture_spelling format rs) at.0, capture_length format rs, left.0, left.1)

-- bytes of which no fault is decided are within the limit, but for the times and a record that is cut off
pub recording_is_short : (bytes : List ℕ) (rs : List Recorded) (fault : Option CaptureFault) → IsRecording bytes rs fault → IsOpen bytes → length bytes < MAX_READ_LIMIT + 65536
recording_is_short bytes rs None r opens = omega (arith, ap length r.ended.1, capture_length r.ended.0 rs, r.records.framed.size, r.records.framed.count, records_length rs)
recording_is_short bytes rs (Some fault) r opens =
    elim (magic_or_not bytes) [
      | inr without ↦ elim (cases_lt (length bytes) 8) [
        | inl few ↦ omega (arith, few)
        | inr many ↦ absurd (opens (record { whole = 0; code = NO_MAGIC }) (other_decides bytes without (magic_in_eight bytes many)))
      ]
      | inl has ↦ elim (cases_eq fault.code CUT_OFF) [
        | inl cut ↦ short_at bytes rs fault has r cut
        | inr whole ↦ absurd (opens fault (reading_decides bytes rs fault has r whole))
      ]
    ]

pub open_is_short : (bytes : List ℕ) → All (λ b. b < 256) bytes → IsOpen bytes → length bytes < MAX_READ_LIMIT + 65536
open_is_short bytes small opens =
    let there = reading_is_there bytes small in
    recording_is_short bytes there.2.0 there.1 there.2.2 opens

-- ---- what follows

-- records with which bytes begin are the first of all that these hold
first_of_all : (format : Format) (bytes left : List ℕ) (rs others : List Recorded) (other : Option CaptureFault) → IsFramed (without_times rs) → All (λ r. IsTime format r.time) rs
    → bytes ≡ capture_spelling format rs ++ left → IsRecording bytes others other → (more : List Recorded) × (others ≡ rs ++ more)
first_of_all format bytes left rs others other framed times spelled o =
    let more = o.records.spelled format (in_format format bytes rs left spelled) in
    let no_longer : length rs ≤ length others = o.records.longest format rs framed (record { times = times; rest = left; spelled = spelled }) in
    let behind = behind_magic format rs others left more.rest (sym spelled ∙ more.spelled) in
    elim (cases_lt (length rs) (length others)) [
      | inl longer ↦
          let next = next_record format rs others left more.rest (framed_fit format rs framed times) (framed_fit format others o.records.framed more.times) longer behind in
          (next.0 ∷ next.1, next.2)
      | inr le ↦
          let as_many : length rs ≡ length others = omega (arith, le, no_longer) in
          let same = same_records format rs others left more.rest (framed_fit format rs framed times) (framed_fit format others o.records.framed more.times) as_many behind in
          ([], sym same.0 ∙ sym (append-nil rs))
    ]

-- the records of the first bytes are the first of all
pub records_stay : (bytes rest : List ℕ) (rs others : List Recorded) (fault other : Option CaptureFault) → IsRecording bytes rs fault → IsRecording (bytes ++ rest) others other
    → (more : List Recorded) × (others ≡ rs ++ more)
records_stay bytes rest rs others fault other r o =
    elim (magic_or_not bytes) [
      | inr without ↦ (others, ap (λ (x : List Recorded). x ++ others) (sym (r.records.none without)))
      | inl (format, here) ↦
          let begins = r.records.spelled format here in
          let spelled : bytes ++ rest ≡ capture_spelling format rs ++ (begins.rest ++ rest) =
          ap (λ (x : List ℕ). x ++ rest) begins.spelled ∙ append_assoc (capture_spelling format rs) begins.rest rest in
          first_of_all format (bytes ++ rest) (begins.rest ++ rest) rs others other r.records.framed begins.times spelled o
    ]

-- whatever stands behind the records that a walk has read, bytes hold these first
pub walk_goes_on : (bytes : List ℕ) (rs : List Recorded) (walk : PlainWalk) → All (λ b. b < 256) bytes → HaveRead bytes rs walk
    → (more : List Recorded) × (fault : Option CaptureFault) × IsRecording bytes (rs ++ more) fault
walk_goes_on bytes rs walk small read =
    let there = reading_is_there bytes small in
    let on = first_of_all walk.format bytes walk.left rs there.2.0 there.1 read.framed read.times read.spelled there.2.2 in
    (on.0, there.1, subst (λ (x : List Recorded). IsRecording bytes x there.1) on.1 there.2.2)

-- nothing came yet
no_magic_in_nothing : HasMagic [] → ⊥
no_magic_in_nothing (Plain, (rest, e)) = omega (arith, ap length e)
no_magic_in_nothing (Timed, (rest, e)) = omega (arith, ap length e)

pub nothing_yet : (HasMagic [] → ⊥) × IsOpen []
nothing_yet = (no_magic_in_nothing, begun_is_open [] (Plain, magic Plain, refl))

pub told_of : (bytes : List ℕ) (told : Option CaptureFault) → IfSome told (IsDecided bytes) → (IsNone told → IsOpen bytes) → IsToldOf bytes told
told_of bytes None some none = none refl
told_of bytes (Some fault) some none = ∣ some ∣₁
