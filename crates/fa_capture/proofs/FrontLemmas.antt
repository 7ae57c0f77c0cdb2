-- What the loop that takes the front of a capture keeps, and what it comes to.
use Rattle.std.proofs.Common.{◌≡◌, ℕ, zero, suc, ◌+◌, ◌-◌, ◌≤◌, List, [], ◌∷◌, ◌++◌, length, take, drop, refl, sym, ap, subst, ◌∙◌, append_assoc, arith, Option, None, Some}
use Rattle.std.specs.Prelude.{slice_get}
use Rattle.std.specs.List.{flat_map, AllByRecursion}
use Rattle.std.proofs.lemmas.List.{append-nil, length-append, length-take-le, take-append-drop, take_all, take_at, take-map, take-take}
use Rattle.std.proofs.lemmas.List.Concat.{flat_map-append}
use Rattle.fa_capture.specs.declared.fault.CaptureFault.{CaptureFault}
use Rattle.fa_capture.specs.declared.format.Format.{Format}
use Rattle.fa_capture.specs.Message.{Message, Recorded, without_times}
use Rattle.fa_capture.specs.Framing.{record_spelling, capture_spelling, BeginsWith}
use Rattle.fa_capture.specs.Reading.{IsInFormat, IsRecording, IsReading, IsFrontOf}
use Rattle.fa_capture.specs.Walks.{PlainWalk, HaveRead}
use Rattle.fa_capture.proofs.FramingLemmas.{Fits, same_records}
use Rattle.fa_capture.proofs.ReadingLemmas.{IsSoFar, framed_fit, behind_magic, in_format, has_magic, same_format, one_recording, reads_whole, so_far_of, records_length, messages_on}
use Rattle.fa_capture.proofs.ListLemmas.{get_last, get_of_front}

-- a walk has read so many records of these bytes
pub record IsBehind (bytes : List ℕ) (count : ℕ) (walk : PlainWalk) : Type 0 where
  pub rs : List Recorded
  pub many : length rs ≡ count
  pub read : HaveRead bytes rs walk

-- one more record
pub behind_more : (bytes : List ℕ) (r : Recorded) (count : ℕ) (old new : PlainWalk) → IsBehind bytes count old
    → ((bytes : List ℕ) (rs : List Recorded) → HaveRead bytes rs old → HaveRead bytes (rs ++ r ∷ []) new) → IsBehind bytes (count + 1) new
behind_more bytes r count old new behind more = record {
  rs = behind.rs ++ r ∷ [];
  many = omega (arith, behind.many, length-append behind.rs (r ∷ []));
  read = more bytes behind.rs behind.read;
}

-- the records of all are those of the first, and then those of the others
split_records : (format : Format) (n : ℕ) (rs : List Recorded) (rest : List ℕ)
    → flat_map (record_spelling format) rs ++ rest ≡ flat_map (record_spelling format) (take n rs) ++ (flat_map (record_spelling format) (drop n rs) ++ rest)
split_records format n rs rest =
    ap (λ (xs : List Recorded). flat_map (record_spelling format) xs ++ rest) (sym (take-append-drop n rs))
    ∙ ap (λ (xs : List ℕ). xs ++ rest) (flat_map-append (record_spelling format) (take n rs) (drop n rs))
    ∙ append_assoc (flat_map (record_spelling format) (take n rs)) (flat_map (record_spelling format) (drop n rs)) rest

fit_front : (format : Format) (n : ℕ) (rs : List Recorded) → AllByRecursion (Fits format) rs → AllByRecursion (Fits format) (take n rs)
fit_front format zero rs fit = tt
fit_front format (suc n) [] fit = tt
fit_front format (suc n) (r ∷ rs) fit = (fit.0, fit_front format n rs fit.1)

-- framed records that the bytes begin with are the first of what the bytes hold
pub first_records : (format : Format) (bytes left : List ℕ) (rs all : List Recorded) (fault : Option CaptureFault) → IsSoFar format bytes rs left → IsRecording bytes all fault → take (length rs) all ≡ rs
first_records format bytes left rs all fault so_far r =
    let begins : BeginsWith format bytes all = r.records.spelled format (in_format format bytes rs left so_far.spelled) in
    let longer : length rs ≤ length all = r.records.longest format rs so_far.framed (record { times = so_far.times; rest = left; spelled = so_far.spelled }) in
    let e : flat_map (record_spelling format) (take (length rs) all) ++ (flat_map (record_spelling format) (drop (length rs) all) ++ begins.rest) ≡ flat_map (record_spelling format) rs ++ left =
    sym (split_records format (length rs) all begins.rest) ∙ behind_magic format all rs begins.rest left (sym begins.spelled ∙ so_far.spelled) in
    (same_records format (take (length rs) all) rs (flat_map (record_spelling format) (drop (length rs) all) ++ begins.rest) left
    (fit_front format (length rs) all (framed_fit format all r.records.framed begins.times)) (framed_fit format rs so_far.framed so_far.times)
    (length-take-le (length rs) all longer) e).0

-- how far the records reach
reach : (format : Format) (bytes left : List ℕ) (rs : List Recorded) → bytes ≡ capture_spelling format rs ++ left → take (length bytes - length left) bytes ≡ capture_spelling format rs
reach format bytes left rs spelled =
    let sum : length bytes ≡ length (capture_spelling format rs) + length left = ap length spelled ∙ length-append (capture_spelling format rs) left in
    let far : length bytes - length left ≡ length (capture_spelling format rs) = omega (arith, sum) in
    ap (λ (n : ℕ). take n bytes) far ∙ ap (take (length (capture_spelling format rs))) spelled ∙ take_at (capture_spelling format rs) left (length (capture_spelling format rs)) refl

-- what is left is no more than there is, and what stands in front of it is the capture of the wanted
abbrev pub IsKept : (bytes : List ℕ) → (wanted : ℕ) → PlainWalk → Type 0
IsKept bytes wanted walk = (length walk.left ≤ length bytes) × IsFrontOf bytes wanted (take (length bytes - length walk.left) bytes)

-- Where the records that were read are the first that are wanted, or all, what stands in front of what is left is the capture
-- of the wanted.
front_reads : (bytes : List ℕ) (count wanted : ℕ) (walk : PlainWalk) (behind : IsBehind bytes count walk)
    → ((all : List Recorded) (fault : Option CaptureFault) → IsRecording bytes all fault → take wanted all ≡ take count all)
    → IsKept bytes wanted walk
front_reads bytes count wanted walk behind same =
    let format = walk.format in
    let rs = behind.rs in
    let so_far = so_far_of bytes rs walk behind.read in
    let kept : List ℕ = take (length bytes - length walk.left) bytes in
    let front : kept ≡ capture_spelling format rs ++ [] = reach format bytes walk.left rs so_far.spelled ∙ sym (append-nil (capture_spelling format rs)) in
    let here : IsInFormat format bytes = in_format format bytes rs walk.left so_far.spelled in
    let there : IsInFormat format kept = in_format format kept rs [] front in (
      omega (arith, ap length so_far.spelled, length-append (capture_spelling format rs) walk.left),
      record {
        begins = has_magic format bytes rs walk.left so_far.spelled;
        same_format = λ f is. subst (λ (g : Format). IsInFormat g kept) (same_format format f bytes here is) there;
        holds = λ all fault r.
            let first : rs ≡ take wanted all = sym (first_records format bytes walk.left rs all fault so_far r) ∙ ap (λ (n : ℕ). take n all) behind.many ∙ sym (same all fault r) in
            subst (λ (qs : List Recorded). IsRecording kept qs None) first (reads_whole format kept rs (record { framed = so_far.framed; times = so_far.times; spelled = front }));
      },
    )

-- as many records as are wanted
pub front_wanted : (bytes : List ℕ) (count wanted : ℕ) (walk : PlainWalk) → IsBehind bytes count walk → count ≡ wanted → IsKept bytes wanted walk
front_wanted bytes count wanted walk behind enough = front_reads bytes count wanted walk behind (λ all fault r. ap (λ (n : ℕ). take n all) (sym enough))

-- where the walk has read all records, they are all that are wanted
front_all : (bytes : List ℕ) (count wanted : ℕ) (walk : PlainWalk) (behind : IsBehind bytes count walk) → count ≤ wanted → (fault : Option CaptureFault) → IsRecording bytes behind.rs fault
    → IsKept bytes wanted walk
front_all bytes count wanted walk behind within fault whole =
    front_reads bytes count wanted walk behind (λ all other r.
    let same : all ≡ behind.rs = (one_recording bytes all behind.rs other fault r whole).0 in
    let few : length all ≡ length behind.rs = ap length same in
    take_all wanted all (omega (arith, few, within, behind.many)) ∙ sym (take_all count all (omega (arith, few, behind.many))))

-- no bytes are left
pub front_to_end : (bytes : List ℕ) (count wanted : ℕ) (walk : PlainWalk) → IsBehind bytes count walk → count ≤ wanted → ((bytes : List ℕ) (rs : List Recorded) → HaveRead bytes rs walk → IsRecording bytes rs None)
    → IsKept bytes wanted walk
front_to_end bytes count wanted walk behind within ends = front_all bytes count wanted walk behind within None (ends bytes behind.rs behind.read)

-- the record behind them is at fault
pub front_to_fault : (bytes : List ℕ) (count wanted code : ℕ) (walk : PlainWalk) → IsBehind bytes count walk → count ≤ wanted
    → ((bytes : List ℕ) (rs : List Recorded) → HaveRead bytes rs walk → IsRecording bytes rs (Some (record { whole = length rs; code = code })))
    → IsKept bytes wanted walk
front_to_fault bytes count wanted code walk behind within fails =
    front_all bytes count wanted walk behind within (Some (record { whole = length behind.rs; code = code })) (fails bytes behind.rs behind.read)

-- ---- what a walk has read is the front of what the bytes hold

-- the first messages of a capture are those of the records that a walk over it has read, up to the last
pub walked_messages : (bytes : List ℕ) (rs : List Recorded) (r : Recorded) (walk : PlainWalk) (ms : List Message) (fault : Option CaptureFault) → HaveRead bytes (rs ++ r ∷ []) walk → IsReading bytes ms fault
    → (take (length rs) ms ≡ without_times rs) × (slice_get ms (length rs) ≡ Some r.message)
walked_messages bytes rs r walk ms fault read (all, is, recording) =
    let before : List Message = without_times rs in
    let count : length before ≡ length rs = records_length rs in
    let first : take (length (rs ++ r ∷ [])) all ≡ rs ++ r ∷ [] = first_records walk.format bytes walk.left (rs ++ r ∷ []) all fault (so_far_of bytes (rs ++ r ∷ []) walk read) recording in
    let long : length (rs ++ r ∷ []) ≡ length rs + 1 = length-append rs (r ∷ []) in
    let shown : take (length rs + 1) ms ≡ before ++ r.message ∷ [] =
    ap (λ (n : ℕ). take n ms) (sym long) ∙ ap (take (length (rs ++ r ∷ []))) (sym is) ∙ take-map (λ (r : Recorded). r.message) (length (rs ++ r ∷ [])) all ∙ ap without_times first ∙ messages_on rs [] r in
    let last : slice_get (before ++ r.message ∷ []) (length rs) ≡ Some r.message = ap (slice_get (before ++ r.message ∷ [])) (sym count) ∙ get_last before r.message in (
      sym (take-take (length rs) (length rs + 1) ms (omega arith)) ∙ ap (take (length rs)) shown ∙ take_at before (r.message ∷ []) (length rs) count,
      get_of_front ms (length rs + 1) (length rs) r.message (ap (λ (xs : List Message). slice_get xs (length rs)) shown ∙ last),
    )
