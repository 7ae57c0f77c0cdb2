-- A walk over the records of a capture, and where it stopped.
use Rattle.std.specs.Prelude.{◌≡◌, ℕ, ◌≤◌, List, ◌++◌, length, drop, Option, None, Some, option_map}
use Rattle.fa_capture.specs.declared.fault.CaptureFault.{CaptureFault}
use Rattle.fa_capture.specs.declared.format.Format.{Format}
use Rattle.fa_capture.specs.declared.limits.TheConstants.{MAX_MESSAGES, MAX_CAPTURE_BYTES}
use Rattle.fa_capture.specs.declared.walk.Progress.{Progress}
use Rattle.fa_capture.specs.declared.walk.Stop.{Stop}
use Rattle.fa_capture.specs.Message.{Recorded}
use Rattle.fa_capture.specs.Framing.{magic}
use Rattle.fa_capture.specs.Reading.{HasMagic, IsRecording}
use Rattle.fa_capture.specs.Records.{AreSpelledBy}
use Rattle.fa_capture.specs.Walks.{PlainWalk, HaveRead}

-- the walk goes on from the one place to the other, over some records or none, which these bytes are
pub record ReadsOn (old new : PlainWalk) : Type 0 where
  pub more : List Recorded
  pub over : List ℕ
  pub same : new.format ≡ old.format
  pub spelled : AreSpelledBy old.format over more
  pub left : old.left ≡ over ++ new.left
  pub read : (bytes : List ℕ) (rs : List Recorded) → HaveRead bytes rs old → HaveRead bytes (rs ++ more) new

-- it has read some records of these bytes
abbrev pub HasRead : List ℕ → PlainWalk → Type 0
HasRead bytes walk = ∥ ((rs : List Recorded) × HaveRead bytes rs walk) ∥₁

-- the fault behind so many records, where one has this code
abbrev pub fault_at : ℕ → Option ℕ → Option CaptureFault
fault_at count code = option_map (λ c. record { whole = count; code = c }) code

-- the fault behind these records
abbrev pub fault_behind : List Recorded → Option ℕ → Option CaptureFault
fault_behind rs code = fault_at (length rs) code

-- the fault at a stop
abbrev pub stop_fault : Stop → Option CaptureFault
stop_fault stop = fault_at stop.so_far.count stop.code

-- a walk that has come so far, where these bytes are left
abbrev pub walk_behind : Progress → List ℕ → PlainWalk
walk_behind so_far left = record { format = so_far.format; count = so_far.count; counted = so_far.counted; left = left }

-- it has read no more records, and come over no more bytes, than a capture may have
pub record IsWithinLimits (so_far : Progress) : Type 0 where
  pub count : so_far.count ≤ MAX_MESSAGES
  pub counted : so_far.counted ≤ MAX_CAPTURE_BYTES

-- the walk over these bytes that stopped there, or may go on from there
abbrev pub walk_at : List ℕ → Stop → PlainWalk
walk_at bytes stop = walk_behind stop.so_far (drop stop.read bytes)

-- a walk over these bytes has come there
pub record IsAt (bytes : List ℕ) (stop : Stop) : Type 0 where
  pub within : stop.read ≤ length bytes
  pub some : HasRead bytes (walk_at bytes stop)

-- a walk over these bytes stops there
pub record IsStop (bytes : List ℕ) (stop : Stop) : Type 0 where
  pub within : stop.read ≤ length bytes
  pub records : List Recorded
  pub read : HaveRead bytes records (walk_at bytes stop)
  pub recording : IsRecording bytes records (stop_fault stop)

-- the walk over these bytes stops there; there is none where no magic is in front
abbrev pub IsReadTo : List ℕ → Option Stop → Type 0
IsReadTo bytes None = HasMagic bytes → ⊥
IsReadTo bytes (Some stop) = ∥ IsStop bytes stop ∥₁

-- a walk over these bytes may go on from there
abbrev pub IsReadOn : List ℕ → Option Stop → Type 0
IsReadOn bytes None = Unit {0}
IsReadOn bytes (Some stop) = IsAt bytes stop

-- the start of a magic, or the whole
abbrev pub IsMagicBegun : List ℕ → Type 0
IsMagicBegun bytes = (format : Format) × (rest : List ℕ) × (magic format ≡ bytes ++ rest)

-- so far as a walk has come, if there is one
abbrev pub IsWithinLimitsIfAny : Option Progress → Type 0
IsWithinLimitsIfAny None = Unit {0}
IsWithinLimitsIfAny (Some so_far) = IsWithinLimits so_far

-- the walk that has come so far, if there is one, where these bytes are left
abbrev pub walk_if_any : Option Progress → List ℕ → Option PlainWalk
walk_if_any None left = None
walk_if_any (Some so_far) left = Some (walk_behind so_far left)
