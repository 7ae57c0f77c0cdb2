-- Records are spelled in one way, so bytes are the records of one list of messages, and of two lists of records that the same bytes
-- begin with one goes on from the other.
use Rattle.std.specs.List.{flat_map, AllByRecursion}
use Rattle.std.specs.Int.{w32, w64, to_le_bytes, from_le_bytes}
use Rattle.std.proofs.Common.{◌≡◌, ℕ, ◌^◌, ◌<◌, ◌≤◌, inl, inr, List, [], ◌∷◌, ◌++◌, length, take, drop, refl, sym, ap, ◌∙◌, append_assoc, arith}
use Rattle.std.proofs.Props.{props}
use Rattle.std.proofs.Math.Logic.{∥∥₁_elim}
use Rattle.std.proofs.lemmas.Bool.{cases_lt}
use Rattle.std.proofs.lemmas.List.{append-nil, length-append, take_at, drop_at}
use Rattle.std.proofs.lemmas.List.Elements.{recursion_from_All}
use Rattle.std.proofs.lemmas.Nat.{from_le_bytes-to_le_bytes_4, from_le_bytes-to_le_bytes_8}
use mathlib.Core.HLevel.{is_prop→PathP}
use Rattle.fa_capture.specs.declared.packet.Direction.{Direction}
use Rattle.fa_capture.specs.declared.packet.Direction.TheVariants.{ToServer, FromServer}
use Rattle.fa_capture.specs.declared.format.Format.{Format}
use Rattle.fa_capture.specs.declared.format.Format.TheVariants.{Plain, Timed}
use Rattle.fa_capture.specs.declared.limits.TheConstants.{MAX_MESSAGE_BYTES}
use Rattle.fa_capture.specs.Message.{Message, Recorded}
use Rattle.fa_capture.specs.Framing.{direction_byte, time_spelling, IsTime, record_spelling}
use Rattle.fa_capture.specs.Records.{AreSpelledBy, SpelledRecords}

pub one_direction : (a b : Direction) → direction_byte a ≡ direction_byte b → a ≡ b
one_direction ToServer ToServer e = refl
one_direction ToServer FromServer e = absurd (omega (arith, e))
one_direction FromServer ToServer e = absurd (omega (arith, e))
one_direction FromServer FromServer e = refl

-- four bytes of a length, and what follows
pub one_length : (a b : ℕ) (x y : List ℕ) → a < 2 ^ 32 → b < 2 ^ 32 → to_le_bytes w32 a ++ x ≡ to_le_bytes w32 b ++ y → (a ≡ b) × (x ≡ y)
one_length a b x y a_fits b_fits e =
    let bytes : to_le_bytes w32 a ≡ to_le_bytes w32 b = sym (take_at (to_le_bytes w32 a) x 4 refl) ∙ ap (take 4) e ∙ take_at (to_le_bytes w32 b) y 4 refl in
    let rest : x ≡ y = sym (drop_at (to_le_bytes w32 a) x 4 refl) ∙ ap (drop 4) e ∙ drop_at (to_le_bytes w32 b) y 4 refl in
    (sym (from_le_bytes-to_le_bytes_4 a a_fits) ∙ ap (from_le_bytes w32) bytes ∙ from_le_bytes-to_le_bytes_4 b b_fits, rest)

-- a time, where the format has it, and what follows
pub one_time : (format : Format) (a b : ℕ) (x y : List ℕ) → IsTime format a → IsTime format b → time_spelling format a ++ x ≡ time_spelling format b ++ y → (a ≡ b) × (x ≡ y)
one_time Plain a b x y a_none b_none e = (a_none ∙ sym b_none, e)
one_time Timed a b x y a_fits b_fits e =
    let bytes : to_le_bytes w64 a ≡ to_le_bytes w64 b = sym (take_at (to_le_bytes w64 a) x 8 refl) ∙ ap (take 8) e ∙ take_at (to_le_bytes w64 b) y 8 refl in
    let rest : x ≡ y = sym (drop_at (to_le_bytes w64 a) x 8 refl) ∙ ap (drop 8) e ∙ drop_at (to_le_bytes w64 b) y 8 refl in
    (sym (from_le_bytes-to_le_bytes_8 a a_fits) ∙ ap (from_le_bytes w64) bytes ∙ from_le_bytes-to_le_bytes_8 b b_fits, rest)

-- as many bytes in front
pub one_front : (a b x y : List ℕ) → length a ≡ length b → a ++ x ≡ b ++ y → (a ≡ b) × (x ≡ y)
one_front a b x y same e = (
  sym (take_at a x (length b) same) ∙ ap (take (length b)) e ∙ take_at b y (length b) refl,
  sym (drop_at a x (length b) same) ∙ ap (drop (length b)) e ∙ drop_at b y (length b) refl,
)

pub one_message : (m n : Message) → m.direction ≡ n.direction → m.bytes ≡ n.bytes → m ≡ n
one_message m n same_direction same_bytes =
    let both : (m.direction, m.bytes) ≡ (n.direction, n.bytes) = cc in
    let made : Direction × List ℕ → Message = λ p. record { direction = p.0; bytes = p.1 } in
    ap made both

pub one_recorded : (r s : Recorded) → r.message ≡ s.message → r.time ≡ s.time → r ≡ s
one_recorded r s same_message same_time =
    let both : (r.message, r.time) ≡ (s.message, s.time) = cc in
    let made : Message × ℕ → Recorded = λ p. record { message = p.0; time = p.1 } in
    ap made both

-- what a record says of a message has its bytes: its length, and its time
abbrev pub Fits : Format → Recorded → Type 0
Fits format r = (length r.message.bytes < 2 ^ 32) × IsTime format r.time

one_record : (format : Format) (r s : Recorded) (x y : List ℕ) → Fits format r → Fits format s → record_spelling format r ++ x ≡ record_spelling format s ++ y → (r ≡ s) × (x ≡ y)
one_record format r s x y r_fits s_fits e =
    let m = r.message in
    let n = s.message in
    let m_behind : List ℕ = to_le_bytes w32 (length m.bytes) ++ m.bytes in
    let n_behind : List ℕ = to_le_bytes w32 (length n.bytes) ++ n.bytes in
    let heads : direction_byte m.direction ≡ direction_byte n.direction = cc in
    let tails : (time_spelling format r.time ++ m_behind) ++ x ≡ (time_spelling format s.time ++ n_behind) ++ y = cc in
    let times = one_time format r.time s.time (m_behind ++ x) (n_behind ++ y) r_fits.1 s_fits.1 (sym (append_assoc (time_spelling format r.time) m_behind x) ∙ tails ∙ append_assoc (time_spelling format s.time) n_behind y) in
    let lengths = one_length (length m.bytes) (length n.bytes) (m.bytes ++ x) (n.bytes ++ y) r_fits.0 s_fits.0 times.1 in
    let bodies = one_front m.bytes n.bytes x y lengths.0 lengths.1 in
    let directions = one_direction m.direction n.direction heads in
    (one_recorded r s (one_message m n directions bodies.0) times.0, bodies.1)

-- a record is some bytes
pub record_size : (format : Format) (r : Recorded) → 0 < length (record_spelling format r)
record_size format r = omega arith

-- two lists of as many records at the front of the same bytes are one
pub same_records : (format : Format) (rs others : List Recorded) (x y : List ℕ) → AllByRecursion (Fits format) rs → AllByRecursion (Fits format) others → length rs ≡ length others
    → flat_map (record_spelling format) rs ++ x ≡ flat_map (record_spelling format) others ++ y → (rs ≡ others) × (x ≡ y)
same_records format [] [] x y fit others_fit same e = (refl, e)
same_records format [] (o ∷ os) x y fit others_fit same e = absurd (omega (arith, same))
same_records format (r ∷ rs) [] x y fit others_fit same e = absurd (omega (arith, same))
same_records format (r ∷ rs) (o ∷ os) x y fit others_fit same e =
    let grouped : record_spelling format r ++ (flat_map (record_spelling format) rs ++ x) ≡ record_spelling format o ++ (flat_map (record_spelling format) os ++ y) =
    sym (append_assoc (record_spelling format r) (flat_map (record_spelling format) rs) x) ∙ e ∙ append_assoc (record_spelling format o) (flat_map (record_spelling format) os) y in
    let first = one_record format r o (flat_map (record_spelling format) rs ++ x) (flat_map (record_spelling format) os ++ y) fit.0 others_fit.0 grouped in
    let rest = same_records format rs os x y fit.1 others_fit.1 (omega (arith, same)) first.1 in
    (let both : r ∷ rs ≡ o ∷ os = cc in both, rest.1)

-- a longer list of records at the front of the same bytes goes on with a record of what is left
pub next_record : (format : Format) (rs others : List Recorded) (x y : List ℕ) → AllByRecursion (Fits format) rs → AllByRecursion (Fits format) others → length rs < length others
    → flat_map (record_spelling format) rs ++ x ≡ flat_map (record_spelling format) others ++ y
    → (r : Recorded) × (more : List Recorded) × (others ≡ rs ++ r ∷ more) × (x ≡ record_spelling format r ++ (flat_map (record_spelling format) more ++ y))
next_record format [] [] x y fit others_fit longer e = absurd (omega (arith, longer))
next_record format [] (o ∷ os) x y fit others_fit longer e = (o, os, refl, e ∙ append_assoc (record_spelling format o) (flat_map (record_spelling format) os) y)
next_record format (r ∷ rs) [] x y fit others_fit longer e = absurd (omega (arith, longer))
next_record format (r ∷ rs) (o ∷ os) x y fit others_fit longer e =
    let grouped : record_spelling format r ++ (flat_map (record_spelling format) rs ++ x) ≡ record_spelling format o ++ (flat_map (record_spelling format) os ++ y) =
    sym (append_assoc (record_spelling format r) (flat_map (record_spelling format) rs) x) ∙ e ∙ append_assoc (record_spelling format o) (flat_map (record_spelling format) os) y in
    let first = one_record format r o (flat_map (record_spelling format) rs ++ x) (flat_map (record_spelling format) os ++ y) fit.0 others_fit.0 grouped in
    let rest = next_record format rs os x y fit.1 others_fit.1 (omega (arith, longer)) first.1 in
    let here : r ≡ o = first.0 in
    let there : os ≡ rs ++ rest.0 ∷ rest.1 = rest.2 in
    (rest.0, rest.1, (let both : o ∷ os ≡ r ∷ (rs ++ rest.0 ∷ rest.1) = cc in both), rest.3)

fit_each : (format : Format) (rs : List Recorded) → AllByRecursion (λ r. length r.message.bytes ≤ MAX_MESSAGE_BYTES) rs → AllByRecursion (λ r. IsTime format r.time) rs → AllByRecursion (Fits format) rs
fit_each format [] short times = tt
fit_each format (r ∷ rs) short times = ((omega (arith, short.0), times.0), fit_each format rs short.1 times.1)

-- what each record says has its bytes
pub records_fit : (format : Format) (bytes : List ℕ) (rs : List Recorded) → AreSpelledBy format bytes rs → AllByRecursion (Fits format) rs
records_fit format bytes rs are =
    fit_each format rs (recursion_from_All (λ (r : Recorded). length r.message.bytes ≤ MAX_MESSAGE_BYTES) rs are.short) (recursion_from_All (λ (r : Recorded). IsTime format r.time) rs are.times)

-- of two such lists neither is longer
not_longer : (format : Format) (bytes : List ℕ) (rs others : List Recorded) → AreSpelledBy format bytes rs → AreSpelledBy format bytes others → length rs < length others → ⊥
not_longer format bytes rs others a b longer =
    let whole : flat_map (record_spelling format) rs ++ [] ≡ flat_map (record_spelling format) others ++ [] =
    append-nil (flat_map (record_spelling format) rs) ∙ sym a.spelled ∙ b.spelled ∙ sym (append-nil (flat_map (record_spelling format) others)) in
    let next = next_record format rs others [] [] (records_fit format bytes rs a) (records_fit format bytes others b) longer whole in
    let some : 0 < length (record_spelling format next.0) = record_size format next.0 in
    omega (arith, ap length next.3, some, length-append (record_spelling format next.0) (flat_map (record_spelling format) next.1 ++ []))

pub records_one : (format : Format) (bytes : List ℕ) (rs others : List Recorded) → AreSpelledBy format bytes rs → AreSpelledBy format bytes others → rs ≡ others
records_one format bytes rs others a b =
    let whole : flat_map (record_spelling format) rs ++ [] ≡ flat_map (record_spelling format) others ++ [] =
    append-nil (flat_map (record_spelling format) rs) ∙ sym a.spelled ∙ b.spelled ∙ sym (append-nil (flat_map (record_spelling format) others)) in
    let as_many : length rs ≡ length others = elim (cases_lt (length rs) (length others)) [
      | inl longer ↦ absurd (not_longer format bytes rs others a b longer)
      | inr le ↦ elim (cases_lt (length others) (length rs)) [
        | inl longer ↦ absurd (not_longer format bytes others rs b a longer)
        | inr le2 ↦ omega (arith, le, le2)
      ]
    ] in
    (same_records format rs others [] [] (records_fit format bytes rs a) (records_fit format bytes others b) as_many whole).0

recorded_set : IsSet (List Recorded)
recorded_set = hlevel props

-- so there is one, with one such fact
pub SpelledRecords-prop : (format : Format) (bytes : List ℕ) → IsProp (SpelledRecords format bytes)
SpelledRecords-prop format bytes a b =
    let same : a.0 ≡ b.0 = ∥∥₁_elim a.1 (recorded_set a.0 b.0) (λ x. ∥∥₁_elim b.1 (recorded_set a.0 b.0) (λ y. records_one format bytes a.0 b.0 x y)) in
    λ i. (same i, is_prop→PathP {0} (λ j. ∥ AreSpelledBy format bytes (same j) ∥₁) (λ j. spelled_prop (same j)) a.1 b.1 i)
  where
    spelled_prop : (rs : List Recorded) → IsProp ∥ AreSpelledBy format bytes rs ∥₁
    spelled_prop rs = hlevel
