-- How far the records of a capture were read.
use Rattle.std.specs.Prelude.{◌≡◌, ℕ, List, [], ◌++◌, length, All, Option, None, Some}
use Rattle.fa_capture.specs.declared.format.Format.{Format}
use Rattle.fa_capture.specs.Message.{Recorded, without_times}
use Rattle.fa_capture.specs.Framing.{IsTime, capture_spelling, counted_bytes, IsFramed}

-- a walk over the records of a capture: its format, how many records were read, how many bytes count so far, and what is left
pub record PlainWalk : Type 0 where
  pub format : Format
  pub count : ℕ
  pub counted : ℕ
  pub left : List ℕ

-- a walk over these bytes has read these records, which are within the limits
pub record HaveRead (bytes : List ℕ) (rs : List Recorded) (walk : PlainWalk) : Type 0 where
  pub framed : IsFramed (without_times rs)
  pub times : All (λ r. IsTime walk.format r.time) rs
  pub spelled : bytes ≡ capture_spelling walk.format rs ++ walk.left
  pub count_is : walk.count ≡ length rs
  pub counted_is : walk.counted ≡ counted_bytes (without_times rs)

-- A walk over these bytes, if there is one, has read these records. Without one all these bytes are kept, and none was read.
abbrev pub HaveReadIfAny : (bytes : List ℕ) → List Recorded → (kept : List ℕ) → Option PlainWalk → Type 0
HaveReadIfAny bytes rs kept None = (bytes ≡ kept) × (rs ≡ [])
HaveReadIfAny bytes rs kept (Some walk) = HaveRead bytes rs walk
