-- Where a walk over the records of a capture stops, and the capture that this is.
use Rattle.std.proofs.Common.{◌≡◌, ◌≢◌, ℕ, ◌+◌, ◌-◌, ◌<◌, ◌≤◌, List, [], ◌∷◌, ◌++◌, length, take, drop, refl, sym, ap, subst, ◌∙◌, inl, inr, append_assoc, arith, Option, Some, None}
use Rattle.std.specs.Prelude.{All, option_map}
use Rattle.std.specs.List.{flat_map}
use Rattle.std.proofs.Math.Logic.{∥∥₁_elim}
use Rattle.std.proofs.Math.Seq.{drop-append_seam, take-append_seam}
use Rattle.std.proofs.Props.{props}
use Rattle.std.proofs.lemmas.List.{length-append, length-drop, drop-append-le, append-nil, get_or-map}
use Rattle.std.proofs.lemmas.List.Concat.{flat_map-append}
use Rattle.std.proofs.lemmas.List.Elements.{All-get_or, All-append, All-nil, All-cons}
use Rattle.fa_capture.specs.declared.codes.TheConstants.{NO_MAGIC, CUT_OFF}
use Rattle.fa_capture.specs.declared.fault.CaptureFault.{CaptureFault}
use Rattle.fa_capture.specs.declared.format.Format.{Format}
use Rattle.fa_capture.specs.declared.limits.TheConstants.{MAX_MESSAGES, MAX_MESSAGE_BYTES}
use Rattle.fa_capture.specs.declared.walk.Progress.{Progress}
use Rattle.fa_capture.specs.declared.walk.Stop.{Stop}
use Rattle.fa_capture.specs.Message.{Message, Recorded, without_times}
use Rattle.fa_capture.specs.Framing.{magic, IsTime, record_spelling, capture_spelling, IsFramed}
use Rattle.fa_capture.specs.Reading.{HasMagic, IsRecording, IsRecord}
use Rattle.fa_capture.specs.Pieces.{IsDecided, IsOpen}
use Rattle.fa_capture.proofs.PieceLemmas.{whole_is_open, cut_is_open, reading_decides}
use Rattle.fa_capture.specs.Records.{AreSpelledBy, SpelledRecords, AreSpelled}
use Rattle.fa_capture.specs.parts.RecordsLaws.{records_one, record_size}
use Rattle.fa_capture.specs.Walks.{PlainWalk, HaveRead}
use Rattle.fa_capture.specs.parts.Walks.{HasRead, ReadsOn, IsWithinLimits, IsAt, IsStop, IsReadTo, IsReadOn, walk_behind, walk_at, stop_fault, fault_behind}
use Rattle.fa_capture.proofs.ReadingLemmas.{one_recording, has_magic, magic_or_not, none_framed, reads_without, records_length}
use Rattle.fa_capture.proofs.ReadingThereLemmas.{reading_is_there}

squash : (A : Type 0) → IsProp ∥ A ∥₁
squash A = hlevel

recorded_set : IsSet (List Recorded)
recorded_set = hlevel props

fault_set : IsSet (Option CaptureFault)
fault_set = hlevel props

-- ---- a walk that goes on

-- what a walk counts is within the limits
pub read_within : (bytes left : List ℕ) (so_far : Progress) → HasRead bytes (walk_behind so_far left) → IsWithinLimits so_far
read_within bytes left so_far read = record {
  count = ∥∥₁_elim read (hlevel props) (λ x. omega (arith, x.1.count_is, x.1.framed.count, records_length x.0));
  counted = ∥∥₁_elim read (hlevel props) (λ x. omega (arith, x.1.counted_is, x.1.framed.size));
}

-- no more is left than there is
pub left_within : (bytes : List ℕ) (walk : PlainWalk) → HasRead bytes walk → length walk.left ≤ length bytes
left_within bytes walk read = ∥∥₁_elim read (hlevel props) (λ x. omega (arith, ap length x.1.spelled, length-append (capture_spelling walk.format x.0) walk.left))

-- where it does not move
pub reads_none : (walk : PlainWalk) → ReadsOn walk walk
reads_none walk = record {
  more = [];
  over = [];
  same = refl;
  spelled = record { times = All-nil (λ (r : Recorded). IsTime walk.format r.time); short = All-nil (λ (r : Recorded). length r.message.bytes ≤ MAX_MESSAGE_BYTES); spelled = refl };
  left = refl;
  read = λ bytes rs have. subst (λ (x : List Recorded). HaveRead bytes x walk) (sym (append-nil rs)) have;
}

-- one record more
pub reads_one : (first old new : PlainWalk) (r : Recorded) → ReadsOn first old → new.format ≡ old.format → IsRecord old.format old.count old.counted old.left r new.left
    → ((bytes : List ℕ) (rs : List Recorded) → HaveRead bytes rs old → HaveRead bytes (rs ++ r ∷ []) new) → ReadsOn first new
reads_one first old new r on same is have =
    let format : old.format ≡ first.format = on.same in
    let spelled : old.left ≡ record_spelling first.format r ++ new.left = is.spelled ∙ ap (λ (f : Format). record_spelling f r ++ new.left) format in
    record {
      more = on.more ++ r ∷ [];
      over = on.over ++ record_spelling first.format r;
      same = same ∙ format;
      spelled = record {
        times = All-append (λ (r : Recorded). IsTime first.format r.time) on.more (r ∷ []) on.spelled.times (All-cons (λ (r : Recorded). IsTime first.format r.time) r [] (subst (λ (f : Format). IsTime f r.time) format is.time) (All-nil (λ (r : Recorded). IsTime first.format r.time)));
        short = All-append (λ (r : Recorded). length r.message.bytes ≤ MAX_MESSAGE_BYTES) on.more (r ∷ []) on.spelled.short (All-cons (λ (r : Recorded). length r.message.bytes ≤ MAX_MESSAGE_BYTES) r [] is.bytes (All-nil (λ (r : Recorded). length r.message.bytes ≤ MAX_MESSAGE_BYTES)));
        spelled = ap (λ (x : List ℕ). x ++ record_spelling first.format r) on.spelled.spelled
            ∙ ap (λ (x : List ℕ). flat_map (record_spelling first.format) on.more ++ x) (sym (append-nil (record_spelling first.format r)))
            ∙ sym (flat_map-append (record_spelling first.format) on.more (r ∷ []));
      };
      left = on.left ∙ ap (λ (x : List ℕ). on.over ++ x) spelled ∙ sym (append_assoc on.over (record_spelling first.format r) new.left);
      read = λ bytes rs read. subst (λ (x : List Recorded). HaveRead bytes x new) (append_assoc rs on.more (r ∷ [])) (have bytes (rs ++ on.more) (on.read bytes rs read));
    }

-- some records
pub some_read : (bytes : List ℕ) (old new : PlainWalk) → ReadsOn old new → HasRead bytes old → HasRead bytes new
some_read bytes old new on read = ∥∥₁_elim read (squash ((rs : List Recorded) × HaveRead bytes rs new)) (λ x. ∣ (x.0 ++ on.more, on.read bytes x.0 x.1) ∣₁)

-- ---- where it stops

left_there : (bytes left front : List ℕ) → bytes ≡ front ++ left → drop (length bytes - length left) bytes ≡ left
left_there bytes left front e =
    let far : length bytes - length left ≡ length front = omega (arith, ap length e, length-append front left) in
    ap (λ (n : ℕ). drop n bytes) far ∙ ap (drop (length front)) e ∙ drop-append_seam front left

-- a walk that goes no further
pub stops : (bytes : List ℕ) (walk : PlainWalk) (stop : Stop) → HasRead bytes walk → stop.so_far.format ≡ walk.format → stop.so_far.count ≡ walk.count → stop.so_far.counted ≡ walk.counted → stop.read ≡ length bytes - length walk.left
    → ((rs : List Recorded) → HaveRead bytes rs walk → IsRecording bytes rs (fault_behind rs stop.code)) → ∥ IsStop bytes stop ∥₁
stops bytes walk stop read format count counted far fault =
    ∥∥₁_elim read (squash (IsStop bytes stop)) (λ (rs, have).
    let left : walk.left ≡ drop stop.read bytes = sym (ap (λ (n : ℕ). drop n bytes) far ∙ left_there bytes walk.left (capture_spelling walk.format rs) have.spelled) in
    let many : stop.so_far.count ≡ length rs = count ∙ have.count_is in
    ∣ record {
      within = omega (arith, far);
      records = rs;
      read = record {
        framed = have.framed;
        times = subst (λ (f : Format). All (λ r. IsTime f r.time) rs) (sym format) have.times;
        spelled = have.spelled ∙ ap (λ (f : Format). capture_spelling f rs ++ walk.left) (sym format) ∙ ap (λ (x : List ℕ). capture_spelling stop.so_far.format rs ++ x) left;
        count_is = many;
        counted_is = counted ∙ have.counted_is;
      };
      recording = subst (IsRecording bytes rs) (ap (λ (n : ℕ). option_map (λ c. record { whole = n; code = c }) stop.code) (sym many)) (fault rs have);
    } ∣₁)

-- more bytes behind those where it stopped
pub stop_goes_on : (bytes more : List ℕ) (stop : Stop) → ∥ IsStop bytes stop ∥₁ → IsAt (bytes ++ more) stop
stop_goes_on bytes more stop is = record {
  within = ∥∥₁_elim is (hlevel props) (λ x. omega (arith, x.within, length-append bytes more));
  some = ∥∥₁_elim is (squash ((rs : List Recorded) × HaveRead (bytes ++ more) rs (walk_at (bytes ++ more) stop))) (λ x. ∣ (
    x.records,
    record {
      framed = x.read.framed;
      times = x.read.times;
      spelled = ap (λ (b : List ℕ). b ++ more) x.read.spelled ∙ append_assoc (capture_spelling stop.so_far.format x.records) (drop stop.read bytes) more
          ∙ ap (λ (b : List ℕ). capture_spelling stop.so_far.format x.records ++ b) (sym (drop-append-le stop.read bytes more x.within));
      count_is = x.read.count_is;
      counted_is = x.read.counted_is;
    },
  ) ∣₁);
}

-- whatever more came
pub read_goes_on : (bytes more : List ℕ) (stop : Option Stop) → IsReadTo bytes stop → IsReadOn (bytes ++ more) stop
read_goes_on bytes more None read = tt
read_goes_on bytes more (Some stop) read = stop_goes_on bytes more stop read

-- a walk that goes on from there, and one from the start
pub on_from_stop : (bytes : List ℕ) (before : Option Stop) (stop : Stop) (walk : PlainWalk) → before ≡ Some stop → walk ≡ walk_at bytes stop → IsReadOn bytes before → HasRead bytes walk
on_from_stop bytes before stop walk is walk_is read = subst (HasRead bytes) (sym walk_is) (subst (IsReadOn bytes) is read).some

pub from_start : (bytes : List ℕ) (walk : PlainWalk) → HaveRead bytes [] walk → HasRead bytes walk
from_start bytes walk read = ∣ ([], read) ∣₁

-- ---- the capture that this is

-- how many messages there are
pub stop_counts : (bytes : List ℕ) (stop : Stop) → ∥ IsStop bytes stop ∥₁ → stop.so_far.count ≤ MAX_MESSAGES
stop_counts bytes stop is = ∥∥₁_elim is (hlevel props) (λ x. omega (arith, x.read.count_is, x.read.framed.count, records_length x.records))

-- the magic and the records reach there
reaches : (bytes : List ℕ) (stop : Stop) (x : IsStop bytes stop) → stop.read ≡ length (magic stop.so_far.format) + length (flat_map (record_spelling stop.so_far.format) x.records)
reaches bytes stop x =
    let rs : List ℕ = flat_map (record_spelling stop.so_far.format) x.records in
    omega (arith, ap length x.read.spelled, length-append (magic stop.so_far.format ++ rs) (drop stop.read bytes), length-append (magic stop.so_far.format) rs, length-drop stop.read bytes, x.within)

pub stop_reaches : (bytes m : List ℕ) (stop : Stop) → m ≡ magic stop.so_far.format → ∥ IsStop bytes stop ∥₁ → (length m ≤ stop.read) × (stop.read ≤ length bytes)
stop_reaches bytes m stop is_magic is =
    ∥∥₁_elim is (hlevel props) (λ x. (omega (arith, ap length is_magic, reaches bytes stop x), x.within))

-- the records stand between the magic and the stop
records_there : (bytes m : List ℕ) (stop : Stop) → m ≡ magic stop.so_far.format → (x : IsStop bytes stop) → AreSpelledBy stop.so_far.format (take (stop.read - length m) (drop (length m) bytes)) x.records
records_there bytes m stop is_magic x =
    let rs : List ℕ = flat_map (record_spelling stop.so_far.format) x.records in
    let left : List ℕ = drop stop.read bytes in
    let behind : drop (length m) bytes ≡ rs ++ left =
    ap (drop (length m)) (x.read.spelled ∙ append_assoc (magic stop.so_far.format) rs left ∙ ap (λ (b : List ℕ). b ++ (rs ++ left)) (sym is_magic)) ∙ drop-append_seam m (rs ++ left) in
    let many : stop.read - length m ≡ length rs = omega (arith, ap length is_magic, reaches bytes stop x) in
    record {
      times = x.read.times;
      short = short_each x.records x.read.framed;
      spelled = ap (take (stop.read - length m)) behind ∙ ap (λ (n : ℕ). take n (rs ++ left)) many ∙ take-append_seam rs left;
    }
  where
    short_each : (rs : List Recorded) → IsFramed (without_times rs) → All (λ r. length r.message.bytes ≤ MAX_MESSAGE_BYTES) rs
    short_each rs framed k d within =
        let at = get_or-map (λ (r : Recorded). r.message) rs k d d.message within in
        let size = ap (λ (m : Message). length m.bytes) at in
        omega (arith, size, All-get_or (λ (m : Message). length m.bytes ≤ MAX_MESSAGE_BYTES) (without_times rs) k d.message (omega (arith, within, records_length rs)) framed.each)

pub stop_holds : (bytes m : List ℕ) (stop : Stop) → m ≡ magic stop.so_far.format → ∥ IsStop bytes stop ∥₁ → AreSpelled stop.so_far.format (take (stop.read - length m) (drop (length m) bytes))
stop_holds bytes m stop is_magic is =
    ∥∥₁_elim is (squash ((rs : List Recorded) × AreSpelledBy stop.so_far.format (take (stop.read - length m) (drop (length m) bytes)) rs)) (λ x. ∣ (x.records, records_there bytes m stop is_magic x) ∣₁)

-- records that stand there are those of the stop
same_there : (bytes m : List ℕ) (stop : Stop) → m ≡ magic stop.so_far.format → (x : IsStop bytes stop) (format : Format) (front : List ℕ) → format ≡ stop.so_far.format → front ≡ take (stop.read - length m) (drop (length m) bytes)
    → (records : SpelledRecords format front) → records.0 ≡ x.records
same_there bytes m stop is_magic x format front format_is front_is records =
    let there : AreSpelledBy format front x.records = subst (λ (b : List ℕ). AreSpelledBy format b x.records) (sym front_is)
    (subst (λ (f : Format). AreSpelledBy f (take (stop.read - length m) (drop (length m) bytes)) x.records) (sym format_is) (records_there bytes m stop is_magic x)) in
    ∥∥₁_elim records.1 (recorded_set records.0 x.records) (λ are. records_one format front records.0 x.records are there)

pub capture_framed : (bytes m : List ℕ) (stop : Stop) → m ≡ magic stop.so_far.format → ∥ IsStop bytes stop ∥₁ → (format : Format) (front : List ℕ) → format ≡ stop.so_far.format → front ≡ take (stop.read - length m) (drop (length m) bytes)
    → (records : SpelledRecords format front) → IsFramed (without_times records.0) × (stop.so_far.count ≡ length records.0)
capture_framed bytes m stop is_magic is format front format_is front_is records = (framed, counted)
  where
    same : (x : IsStop bytes stop) → records.0 ≡ x.records
    same x = same_there bytes m stop is_magic x format front format_is front_is records

    framed_as : (x : IsStop bytes stop) → IsFramed (without_times records.0)
    framed_as x = subst (λ (rs : List Recorded). IsFramed (without_times rs)) (sym (same x)) x.read.framed

    framed : IsFramed (without_times records.0)
    framed = record {
      count = ∥∥₁_elim is (hlevel props) (λ x. (framed_as x).count);
      each = λ k d within. ∥∥₁_elim is (hlevel props) (λ x. (framed_as x).each k d within);
      size = ∥∥₁_elim is (hlevel props) (λ x. (framed_as x).size);
    }

    counted : stop.so_far.count ≡ length records.0
    counted = ∥∥₁_elim is (hlevel props) (λ x. omega (arith, x.read.count_is, ap length (same x)))

-- what is read there is what the bytes hold
pub stop_records : (bytes : List ℕ) → All (λ b. b < 256) bytes → (stop : Stop) (records : List Recorded) (fault : Option CaptureFault) → fault ≡ stop_fault stop → ∥ ((x : IsStop bytes stop) × (records ≡ x.records)) ∥₁
    → IsRecording bytes records fault
stop_records bytes small stop records fault fault_is is =
    let there = reading_is_there bytes small in
    let held : IsRecording bytes there.2.0 there.1 = there.2.2 in
    let same : there.2.0 ≡ records = ∥∥₁_elim is (recorded_set there.2.0 records) (λ x. (one_recording bytes there.2.0 x.0.records there.1 (stop_fault stop) held x.0.recording).0 ∙ sym x.1) in
    let ends : there.1 ≡ fault = ∥∥₁_elim is (fault_set there.1 fault) (λ x. (one_recording bytes there.2.0 x.0.records there.1 (stop_fault stop) held x.0.recording).1 ∙ sym fault_is) in
    subst (IsRecording bytes records) ends (subst (λ (rs : List Recorded). IsRecording bytes rs there.1) same held)

pub capture_there : (bytes m : List ℕ) → All (λ b. b < 256) bytes → (stop : Stop) → m ≡ magic stop.so_far.format → ∥ IsStop bytes stop ∥₁ → (format : Format) (front : List ℕ) → format ≡ stop.so_far.format
    → front ≡ take (stop.read - length m) (drop (length m) bytes) → (records : SpelledRecords format front) (fault : Option CaptureFault) → fault ≡ stop_fault stop → IsRecording bytes records.0 fault
capture_there bytes m small stop is_magic is format front format_is front_is records fault fault_is =
    stop_records bytes small stop records.0 fault fault_is
    (∥∥₁_elim is (squash ((x : IsStop bytes stop) × (records.0 ≡ x.records))) (λ x. ∣ (x, same_there bytes m stop is_magic x format front format_is front_is records) ∣₁))

-- bytes of which a walk stopped begin as a capture does
pub stop_magic : (bytes : List ℕ) (stop : Stop) → ∥ IsStop bytes stop ∥₁ → HasMagic bytes
stop_magic bytes stop is =
    elim (magic_or_not bytes) [
      | inl has ↦ has
      | inr without ↦ absurd (∥∥₁_elim is (λ x y. absurd x) (λ x. without (has_magic stop.so_far.format bytes x.records (drop stop.read bytes) x.read.spelled)))
    ]

-- and hold some records with the fault at the stop
pub stop_reads : (bytes : List ℕ) → All (λ b. b < 256) bytes → (stop : Stop) → ∥ IsStop bytes stop ∥₁ → (records : List Recorded) × IsRecording bytes records (stop_fault stop)
stop_reads bytes small stop is =
    let there = reading_is_there bytes small in
    let held : IsRecording bytes there.2.0 there.1 = there.2.2 in
    let ends : there.1 ≡ stop_fault stop = ∥∥₁_elim is (fault_set there.1 (stop_fault stop)) (λ x. (one_recording bytes there.2.0 x.records there.1 (stop_fault stop) held x.recording).1) in
    (there.2.0, subst (IsRecording bytes there.2.0) ends held)

-- no records
no_records : (format : Format) (rs : List Recorded) → AreSpelledBy format [] rs → rs ≡ []
no_records format [] are = refl
no_records format (r ∷ rs) are = absurd (omega (arith, ap length are.spelled, record_size format r, length-append (record_spelling format r) (flat_map (record_spelling format) rs)))

pub empty_records : (format : Format) (front : List ℕ) → front ≡ [] → (records : SpelledRecords format front) → records.0 ≡ []
empty_records format front empty records =
    ∥∥₁_elim records.1 (recorded_set records.0 []) (λ are. no_records format records.0 (subst (λ (b : List ℕ). AreSpelledBy format b records.0) empty are))

pub none_held : (format : Format) → AreSpelled format []
none_held format = ∣ ([], record { times = λ k d below. absurd (omega (arith, below)); short = λ k d below. absurd (omega (arith, below)); spelled = refl }) ∣₁

-- bytes that begin with no magic
pub empty_framed : (records : List Recorded) → records ≡ [] → IsFramed (without_times records) × (0 ≡ length records)
empty_framed records none = (subst (λ (rs : List Recorded). IsFramed (without_times rs)) (sym none) none_framed, sym (ap length none))

pub empty_reads : (records : List Recorded) (bytes : List ℕ) → records ≡ [] → (HasMagic bytes → ⊥) → IsRecording bytes records (Some (record { whole = 0; code = NO_MAGIC }))
empty_reads records bytes none without = subst (λ (rs : List Recorded). IsRecording bytes rs (Some (record { whole = 0; code = NO_MAGIC }))) (sym none) (reads_without bytes without)

-- ---- which fault is decided there

pub stop_opens_whole : (bytes : List ℕ) → All (λ b. b < 256) bytes → (stop : Stop) → ∥ IsStop bytes stop ∥₁ → stop_fault stop ≡ None → IsOpen bytes
stop_opens_whole bytes small stop is none =
    let there = stop_reads bytes small stop is in
    whole_is_open bytes there.0 (subst (IsRecording bytes there.0) none there.1)

pub stop_opens_cut : (bytes : List ℕ) → All (λ b. b < 256) bytes → (stop : Stop) (fault : CaptureFault) → ∥ IsStop bytes stop ∥₁ → stop_fault stop ≡ Some fault → fault.code ≡ CUT_OFF → IsOpen bytes
stop_opens_cut bytes small stop fault is fault_is cut =
    let there = stop_reads bytes small stop is in
    cut_is_open bytes there.0 fault (stop_magic bytes stop is) (subst (IsRecording bytes there.0) fault_is there.1) cut

pub stop_decides : (bytes : List ℕ) → All (λ b. b < 256) bytes → (stop : Stop) (fault : CaptureFault) → ∥ IsStop bytes stop ∥₁ → stop_fault stop ≡ Some fault → fault.code ≢ CUT_OFF → IsDecided bytes fault
stop_decides bytes small stop fault is fault_is whole =
    let there = stop_reads bytes small stop is in
    reading_decides bytes there.0 fault (stop_magic bytes stop is) (subst (IsRecording bytes there.0) fault_is there.1) whole

-- without a stop there is no magic
pub no_stop : (bytes : List ℕ) (stop : Option Stop) → ((x : Stop) → stop ≡ Some x → ⊥) → IsReadTo bytes stop → HasMagic bytes → ⊥
no_stop bytes None none read = read
no_stop bytes (Some x) none read = absurd (none x refl)

pub at_stop : (bytes : List ℕ) (stop : Option Stop) (x : Stop) → stop ≡ Some x → IsReadTo bytes stop → ∥ IsStop bytes x ∥₁
at_stop bytes stop x is read = subst (IsReadTo bytes) is read
