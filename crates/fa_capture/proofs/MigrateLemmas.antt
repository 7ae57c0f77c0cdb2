-- What is written of a capture's records is the capture that holds them.
use Rattle.std.proofs.Common.{◌≡◌, ℕ, ◌≤◌, List, [], ◌∷◌, ◌++◌, length, Option, Some, None, refl, sym, ap, subst, ◌∙◌, append_assoc, arith}
use Rattle.std.specs.Prelude.{All}
use Rattle.std.specs.Io.KnownBytes.{Appends, append_known}
use Rattle.std.proofs.KnownBytes.{Appends-trans}
use Rattle.std.specs.List.{AllByRecursion}
use Rattle.std.specs.Int.{w32, w64, to_le_bytes}
use Rattle.std.proofs.lemmas.List.{append-nil}
use Rattle.std.proofs.lemmas.List.Elements.{recursion_from_All, All-from_recursion}
use Rattle.fa_capture.specs.declared.format.Format.{Format}
use Rattle.fa_capture.specs.declared.format.Format.TheVariants.{Plain, Timed}
use Rattle.fa_capture.specs.declared.fault.CaptureFault.{CaptureFault}
use Rattle.fa_capture.specs.declared.migration.MigrateError.TheVariants.{Fault, Memory}
use Rattle.fa_capture.specs.Message.{Message, Recorded, without_times}
use Rattle.fa_capture.specs.Framing.{magic, direction_byte, IsTime, record_spelling, capture_spelling, IsFramed}
use Rattle.fa_capture.specs.declared.limits.TheConstants.{MAX_MESSAGE_BYTES}
use Rattle.fa_capture.specs.Reading.{IsReading, IsRecording, IsMigrated, IsMigrateError, MigratedHoldsTheSame}
use Rattle.fa_capture.proofs.ReadingLemmas.{one_reading_lem, one_recording, in_format, reads_whole, spelled_on, messages_on, one_of}

-- a time of either format stands in eight bytes
time_fits : (format : Format) (time : ℕ) → IsTime format time → IsTime Timed time
time_fits Plain time none = omega (arith, none)
time_fits Timed time fits = fits

times_fit : (format : Format) (rs : List Recorded) → AllByRecursion (λ r. IsTime format r.time) rs → AllByRecursion (λ r. IsTime Timed r.time) rs
times_fit format [] times = tt
times_fit format (r ∷ rs) times = (time_fits format r.time times.0, times_fit format rs times.1)

-- the records of a capture without a fault, spelled with times, are the capture of them
spelled_holds : (bytes written : List ℕ) (rs : List Recorded) → IsRecording bytes rs None → written ≡ capture_spelling Timed rs → IsRecording written rs None
spelled_holds bytes written rs r e =
    let format = r.ended.0 in
    let begins = r.records.spelled format (in_format format bytes rs [] (r.ended.1 ∙ sym (append-nil (capture_spelling format rs)))) in
    let times : All (λ r. IsTime Timed r.time) rs =
    All-from_recursion (λ (r : Recorded). IsTime Timed r.time) rs (times_fit format rs (recursion_from_All (λ (r : Recorded). IsTime format r.time) rs begins.times)) in
    reads_whole Timed written rs (record { framed = r.records.framed; times = times; spelled = e ∙ sym (append-nil (capture_spelling Timed rs)) })

pub migrated_holds_the_same : MigratedHoldsTheSame
migrated_holds_the_same bytes written rs m r =
    spelled_holds bytes written rs r (m.spelled ∙ ap (capture_spelling Timed) (one_recording bytes m.records rs None None m.hold r).0)

-- it holds the messages that the bytes hold, and the bytes hold what it holds
pub migrated_reads : (bytes written : List ℕ) → IsMigrated bytes written → (ms : List Message) (fault : Option CaptureFault) → IsReading bytes ms fault → IsReading written ms fault
migrated_reads bytes written m ms fault r =
    let held : IsReading written (without_times m.records) None = (m.records, refl, migrated_holds_the_same bytes written m.records m m.hold) in
    let one = one_reading_lem bytes (without_times m.records) ms None fault (m.records, refl, m.hold) r in
    subst (IsReading written ms) one.1 (subst (λ (c : List Message). IsReading written c None) one.0 held)

pub reads_migrated : (bytes written : List ℕ) → IsMigrated bytes written → (ms : List Message) (fault : Option CaptureFault) → IsReading written ms fault → IsReading bytes ms fault
reads_migrated bytes written m ms fault r =
    let held : IsReading bytes (without_times m.records) None = (m.records, refl, m.hold) in
    let one = one_reading_lem written (without_times m.records) ms None fault (m.records, refl, migrated_holds_the_same bytes written m.records m m.hold) r in
    subst (IsReading bytes ms) one.1 (subst (λ (c : List Message). IsReading bytes c None) one.0 held)

-- bytes with a framing fault are not migrated
pub not_migrated : (bytes : List ℕ) (rs : List Recorded) (is : Option CaptureFault) (fault : CaptureFault) → is ≡ Some fault → IsRecording bytes rs is → IsMigrateError bytes (Fault fault)
not_migrated bytes rs is fault here r = (without_times rs, (rs, refl, subst (IsRecording bytes rs) here r))

-- ---- what is written

-- a record goes out part by part
pub record_put : (r : Recorded) (old one two three four : Option (List ℕ)) (d : ℕ) (time size : List ℕ) → d ≡ direction_byte r.message.direction → time ≡ to_le_bytes w64 r.time → size ≡ to_le_bytes w32 (length r.message.bytes)
    → Appends old one (d ∷ []) → Appends one two time → Appends two three size → Appends three four r.message.bytes → Appends old four (record_spelling Timed r)
record_put r old one two three four d time size direction_is time_is size_is first second third fourth =
    let body : List ℕ = r.message.bytes in
    let same : (d ∷ []) ++ (time ++ (size ++ body)) ≡ record_spelling Timed r = cc in
    subst (Appends old four) same (Appends-trans old one four (d ∷ []) (time ++ (size ++ body)) first (Appends-trans one two four time (size ++ body) second (Appends-trans two three four size body third fourth)))

-- no record is put behind the magic
pub none_put : (old new : Option (List ℕ)) (none first gathered : List ℕ) → none ≡ [] → first ≡ magic Timed → Appends (append_known old none) (append_known new gathered) first → Appends old (append_known new gathered) (capture_spelling Timed [])
none_put None new none first gathered empty begins put = tt
none_put (Some xs) None none first gathered empty begins put = absurd put
none_put (Some xs) (Some ys) none first gathered empty begins put =
    let magic_alone : capture_spelling Timed [] ≡ magic Timed = append-nil (magic Timed) in
    let joined : (xs ++ none) ++ first ≡ xs ++ first = ap (λ (x : List ℕ). (xs ++ x) ++ first) empty ∙ ap (λ (x : List ℕ). x ++ first) (append-nil xs) in
    put ∙ joined ∙ ap (λ (x : List ℕ). xs ++ x) (begins ∙ sym magic_alone)

-- and one more
pub one_more_put : (old between new : Option (List ℕ)) (front : List Recorded) (r : Recorded) → Appends old between (capture_spelling Timed front) → Appends between new (record_spelling Timed r) → Appends old new (capture_spelling Timed (front ++ r ∷ []))
one_more_put old between new front r so_far put =
    let spelled : capture_spelling Timed (front ++ r ∷ []) ≡ capture_spelling Timed front ++ record_spelling Timed r =
    spelled_on Timed front [] r ∙ ap (λ (x : List ℕ). capture_spelling Timed front ++ x) (append-nil (record_spelling Timed r)) in
    subst (Appends old new) (sym spelled) (Appends-trans old between new (capture_spelling Timed front) (record_spelling Timed r) so_far put)

-- ---- the records that are put, and those that are left

-- no fault was found
without_fault : (fault : Option CaptureFault) → ((f : CaptureFault) → fault ≡ Some f → ⊥) → fault ≡ None
without_fault None other = refl
without_fault (Some f) other = absurd (other f refl)

-- where memory was refused there is none
pub memory_refused : (bytes : List ℕ) (rs : List Recorded) (fault : Option CaptureFault) → ((f : CaptureFault) → fault ≡ Some f → ⊥) → IsRecording bytes rs fault → IsMigrateError bytes Memory
memory_refused bytes rs fault other r = (without_times rs, (rs, refl, subst (IsRecording bytes rs) (without_fault fault other) r))

-- so all is written behind nothing
pub all_put : (bytes written before : List ℕ) (rs : List Recorded) (fault : Option CaptureFault) → ((f : CaptureFault) → fault ≡ Some f → ⊥) → IsRecording bytes rs fault → before ≡ [] → written ≡ before ++ capture_spelling Timed rs → IsMigrated bytes written
all_put bytes written before rs fault other r nothing is = record {
  records = rs;
  hold = subst (IsRecording bytes rs) (without_fault fault other) r;
  spelled = is ∙ ap (λ (x : List ℕ). x ++ capture_spelling Timed rs) nothing;
}

-- the first of those that are left is put
pub one_fewer : (all front left rest : List Recorded) (r : Recorded) → left ≡ r ∷ rest → all ≡ front ++ left → all ≡ (front ++ r ∷ []) ++ rest
one_fewer all front left rest r is held = held ∙ ap (λ (x : List Recorded). front ++ x) is ∙ sym (append_assoc front (r ∷ []) rest)

-- it is within the limit
pub first_short : (all front left rest : List Recorded) (r : Recorded) → left ≡ r ∷ rest → all ≡ front ++ left → IsFramed (without_times all) → length r.message.bytes ≤ MAX_MESSAGE_BYTES
first_short all front left rest r is held framed =
    let all_framed : IsFramed (without_times front ++ r.message ∷ without_times rest) =
    subst IsFramed (ap without_times held ∙ ap (λ (x : List Recorded). without_times (front ++ x)) is ∙ messages_on front rest r) framed in
    one_of (without_times front) (without_times rest) r.message (recursion_from_All (λ (m : Message). length m.bytes ≤ MAX_MESSAGE_BYTES) (without_times front ++ r.message ∷ without_times rest) all_framed.each)

-- none is left, and what is gathered goes out
pub all_gathered_put : (old new put : Option (List ℕ)) (gathered last : List ℕ) (all front left : List Recorded) → left ≡ [] → all ≡ front ++ left
    → Appends old (append_known new gathered) (capture_spelling Timed front) → last ≡ gathered → Appends new put last → Appends old put (capture_spelling Timed all)
all_gathered_put None new put gathered last all front left none held so_far same goes = tt
all_gathered_put (Some xs) None put gathered last all front left none held so_far same goes = absurd so_far
all_gathered_put (Some xs) (Some ys) None gathered last all front left none held so_far same goes = absurd goes
all_gathered_put (Some xs) (Some ys) (Some zs) gathered last all front left none held so_far same goes =
    let every : front ≡ all = sym (held ∙ ap (λ (x : List Recorded). front ++ x) none ∙ append-nil front) in
    goes ∙ ap (λ (x : List ℕ). ys ++ x) same ∙ so_far ∙ ap (λ (x : List Recorded). xs ++ capture_spelling Timed x) every
