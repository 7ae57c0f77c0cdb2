-- What a pull does to the bytes that an input has left, and which mark it sets.
use Rattle.std.specs.Prelude.{◌≡◌, ℕ, ◌≤◌, ◌<◌, Bool, true, false, List, length, take, Option}
use Rattle.std.specs.Io.KnownBytes.{Keeps, Consumes, IsAtEnd}
use Rattle.fa_capture.specs.declared.input.Pull.{Pull}
use Rattle.fa_capture.specs.declared.input.Pull.TheVariants.{Got, Interrupted, Failed}

-- the pull failed
abbrev pub is_failed : Pull → Bool
is_failed (Got n) = false
is_failed Interrupted = false
is_failed Failed = true

-- the pull was interrupted
abbrev pub is_interrupted : Pull → Bool
is_interrupted (Got n) = false
is_interrupted Interrupted = true
is_interrupted Failed = false

-- how many bytes the pull gave
abbrev pub pulled_count : Pull → ℕ
pulled_count (Got n) = n
pulled_count Interrupted = 0
pulled_count Failed = 0

-- no more bytes were put than there is room for
abbrev pub IsWithin : Pull → List ℕ → Type 0
IsWithin (Got n) into = n ≤ length into
IsWithin Interrupted into = Unit {0}
IsWithin Failed into = Unit {0}

-- `Got(n)` put the next n bytes first, none only at the end or where there is no room. Otherwise none was taken.
abbrev pub Pulls : Option (List ℕ) → Option (List ℕ) → Pull → List ℕ → Type 0
Pulls old new (Got n) into = Consumes old new (take n into) × (n ≡ 0 → 0 < length into → IsAtEnd new)
Pulls old new Interrupted into = Keeps old new
Pulls old new Failed into = Keeps old new

-- A pull gave these bytes, where there was room: none only at the end, or where it was interrupted or failed.
pub record PullsPiece (old new : Option (List ℕ)) (pull : Pull) (piece : List ℕ) : Type 0 where
  pub taken : Consumes old new piece
  pub counted : length piece ≡ pulled_count pull
  pub end : pull ≡ Got 0 → IsAtEnd new
