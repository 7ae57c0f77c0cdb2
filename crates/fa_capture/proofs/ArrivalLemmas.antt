-- A capture that is read as it comes: what comes with a piece.
use Rattle.std.proofs.Common.{◌≡◌, ◌≢◌, ℕ, ◌-◌, inl, inr, ◌⊎◌, List, [], ◌++◌, length, take, drop, refl, sym, ap, subst, ◌∙◌, append_assoc, arith, Option, Some, None}
use Rattle.std.specs.Prelude.{IfSome, IsNone}
use Rattle.std.proofs.Math.Logic.{∥∥₁_elim}
use Rattle.std.proofs.Math.Seq.{drop-append_seam, take-append_seam}
use Rattle.std.proofs.Props.{props}
use Rattle.std.proofs.lemmas.List.{length-append}
use Rattle.fa_capture.specs.declared.codes.TheConstants.{NO_MAGIC, CUT_OFF}
use Rattle.fa_capture.specs.declared.fault.CaptureFault.{CaptureFault}
use Rattle.fa_capture.specs.declared.format.Format.{Format}
use Rattle.fa_capture.specs.declared.incoming.WholeRecords.{WholeRecords}
use Rattle.fa_capture.specs.declared.walk.Progress.{Progress}
use Rattle.fa_capture.specs.Captures.{records_left}
use Rattle.fa_capture.specs.Message.{Recorded}
use Rattle.fa_capture.specs.Framing.{capture_spelling}
use Rattle.fa_capture.specs.Incoming.{HasCome}
use Rattle.fa_capture.specs.Pieces.{IsDecided, IsOpen}
use Rattle.fa_capture.specs.Reading.{HasMagic, IsRecording}
use Rattle.fa_capture.specs.Records.{AreSpelledBy, SpelledRecords}
use Rattle.fa_capture.specs.parts.Arrivals.{end_fault, AreWholeRecords}
use Rattle.fa_capture.specs.parts.RecordsLaws.{records_one}
use Rattle.fa_capture.specs.Walks.{PlainWalk, HaveRead, HaveReadIfAny}
use Rattle.fa_capture.specs.parts.Walks.{IsMagicBegun, walk_behind, fault_at, walk_if_any}
use Rattle.fa_capture.proofs.PieceLemmas.{reading_decides, other_decides, whole_is_open, cut_is_open, begun_is_open}
use Rattle.fa_capture.proofs.ReadingLemmas.{has_magic, reads_without}

recorded_set : IsSet (List Recorded)
recorded_set = hlevel props

-- what stands before the rest
pub over_there : (left over behind : List ℕ) → left ≡ over ++ behind → take (length left - length behind) left ≡ over
over_there left over behind e =
    let far : length left - length behind ≡ length over = omega (arith, ap length e, length-append over behind) in
    ap (λ (n : ℕ). take n left) far ∙ ap (take (length over)) e ∙ take-append_seam over behind

-- bytes that are these records are no others
pub records_are : (format : Format) (bytes : List ℕ) (rs : List Recorded) (records : SpelledRecords format bytes) → AreSpelledBy format bytes rs → records.0 ≡ rs
records_are format bytes rs records are = ∥∥₁_elim records.1 (recorded_set records.0 rs) (λ held. records_one format bytes records.0 rs held are)

-- one piece more
pub piece_behind : (bytes piece : List ℕ) (rs : List Recorded) (kept more : List ℕ) (so_far : Option Progress) → more ≡ kept ++ piece → HaveReadIfAny bytes rs kept (walk_if_any so_far kept) → HaveReadIfAny (bytes ++ piece) rs more (walk_if_any so_far more)
piece_behind bytes piece rs kept more None is (all, none) = (ap (λ (x : List ℕ). x ++ piece) all ∙ sym is, none)
piece_behind bytes piece rs kept more (Some so_far) is have = record {
  framed = have.framed;
  times = have.times;
  spelled = ap (λ (x : List ℕ). x ++ piece) have.spelled ∙ append_assoc (capture_spelling so_far.format rs) kept piece ∙ ap (λ (x : List ℕ). capture_spelling so_far.format rs ++ x) (sym is);
  count_is = have.count_is;
  counted_is = have.counted_is;
}

-- what stands behind the records
pub left_behind : (kept front over left : List ℕ) (walk : List ℕ) → kept ≡ front ++ walk → walk ≡ over ++ left → drop (length kept - length left) kept ≡ left
left_behind kept front over left walk is on =
    let whole : kept ≡ (front ++ over) ++ left = is ∙ ap (λ (x : List ℕ). front ++ x) on ∙ sym (append_assoc front over left) in
    let far : length kept - length left ≡ length (front ++ over) = omega (arith, ap length whole, length-append (front ++ over) left) in
    ap (λ (n : ℕ). drop n kept) far ∙ ap (drop (length (front ++ over))) whole ∙ drop-append_seam (front ++ over) left

-- ---- without a magic

-- what came before it, and with it, is no magic
pub come_without : (bytes piece : List ℕ) (rs records : List Recorded) (kept more : List ℕ) (so_far : Option Progress) (code : Option ℕ) → so_far ≡ None → more ≡ kept ++ piece → (HasMagic more → ⊥) → records ≡ []
    → HasCome bytes rs (record { kept = kept; walk = walk_if_any so_far kept; fault = end_fault so_far code }) → (bytes ++ piece ≡ more) × HasCome (bytes ++ piece) (rs ++ records) (record { kept = more; walk = walk_if_any so_far more; fault = end_fault so_far code })
come_without bytes piece rs records kept more (Some so_far) code none is without nothing come = absurd cc
come_without bytes piece rs records kept more None code none is without nothing come =
    let all : bytes ++ piece ≡ more = ap (λ (x : List ℕ). x ++ piece) come.read.0 ∙ sym is in
    let no_records : rs ++ records ≡ [] = ap (λ (x : List Recorded). x ++ records) come.read.1 ∙ nothing in (
      all,
      record {
        recording = subst (λ (x : List Recorded). IsRecording (bytes ++ piece) x (Some (record { whole = 0; code = NO_MAGIC }))) (sym no_records)
            (reads_without (bytes ++ piece) (λ has. without (subst HasMagic all has)));
        read = (all, no_records);
      },
    )

-- these first bytes can be followed by no magic, or one begins with them
pub decided_without : (bytes more : List ℕ) (fault : Option CaptureFault) → bytes ≡ more → (HasMagic more → ⊥)
    → IfSome fault (λ f. (f ≡ record { whole = 0; code = NO_MAGIC }) × ((rest : List ℕ) → HasMagic (more ++ rest) → HasMagic more)) → IfSome fault (IsDecided bytes)
decided_without bytes more None all without decided = tt
decided_without bytes more (Some fault) all without decided =
    subst (λ (b : List ℕ). IsDecided b fault) (sym all) (subst (IsDecided more) (sym decided.0) (other_decides more without decided.1))

pub open_without : (bytes more : List ℕ) (fault : Option CaptureFault) → bytes ≡ more → (IsNone fault → IsMagicBegun more) → IsNone fault → IsOpen bytes
open_without bytes more fault all begun none = subst IsOpen (sym all) (begun_is_open more (begun none))

-- ---- behind a magic

module _ (bytes : List ℕ) (rs : List Recorded) (walk : PlainWalk) (whole : WholeRecords) (are : AreWholeRecords walk whole) (have : HaveRead bytes rs walk) where
  have_all : HaveRead bytes (rs ++ are.on.more) are.after
  have_all = are.on.read bytes rs have

  recorded_all : IsRecording bytes (rs ++ are.on.more) (fault_at whole.so_far.count whole.code)
  recorded_all =
      let many : length (rs ++ are.on.more) ≡ whole.so_far.count = sym have_all.count_is ∙ ap (λ (w : PlainWalk). w.count) are.so_far in
      subst (λ (n : ℕ). IsRecording bytes (rs ++ are.on.more) (fault_at n whole.code)) many (are.fault bytes (rs ++ are.on.more) have_all)

  pub come_behind : (kept : List ℕ) → kept ≡ are.after.left → HasCome bytes (rs ++ records_left whole.packets) (record { kept = kept; walk = Some (walk_behind whole.so_far kept); fault = fault_at whole.so_far.count whole.code })
  come_behind kept is = record {
    recording = subst (λ (x : List Recorded). IsRecording bytes (rs ++ x) (fault_at whole.so_far.count whole.code)) (sym are.packets) recorded_all;
    read = subst (λ (x : List Recorded). HaveRead bytes (rs ++ x) (walk_behind whole.so_far kept)) (sym are.packets)
        (subst (λ (x : List ℕ). HaveRead bytes (rs ++ are.on.more) (walk_behind whole.so_far x)) (sym is) (subst (HaveRead bytes (rs ++ are.on.more)) are.so_far have_all));
  }

  magic_there : HasMagic bytes
  magic_there = has_magic are.after.format bytes (rs ++ are.on.more) are.after.left have_all.spelled

  -- the record that stops the walk is at fault whatever follows, or what follows may complete it
  pub decided_behind : (fault : Option CaptureFault) → IfSome fault (λ f. (fault_at whole.so_far.count whole.code ≡ Some f) × (f.code ≢ CUT_OFF)) → IfSome fault (IsDecided bytes)
  decided_behind None decided = tt
  decided_behind (Some fault) decided = reading_decides bytes (rs ++ are.on.more) fault magic_there (subst (IsRecording bytes (rs ++ are.on.more)) decided.0 recorded_all) decided.1

  pub open_behind : (fault : Option CaptureFault) → (IsNone fault → (whole.code ≡ None) ⊎ (whole.code ≡ Some CUT_OFF)) → IsNone fault → IsOpen bytes
  open_behind fault opens none =
      elim (opens none) [
        | inl none ↦ whole_is_open bytes (rs ++ are.on.more) (subst (λ (c : Option ℕ). IsRecording bytes (rs ++ are.on.more) (fault_at whole.so_far.count c)) none recorded_all)
        | inr cut ↦ cut_is_open bytes (rs ++ are.on.more) (record { whole = whole.so_far.count; code = CUT_OFF }) magic_there
            (subst (λ (c : Option ℕ). IsRecording bytes (rs ++ are.on.more) (fault_at whole.so_far.count c)) cut recorded_all) refl
      ]
