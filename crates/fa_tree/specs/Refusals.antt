-- What a refusal says.
use Rattle.std.specs.Prelude.{◌≡◌, ◌≢◌, ◌⊎◌, ℕ, List}
use Rattle.fa_capture.specs.Checks.{FirstFailure, AllHold}
use Rattle.fa_bodies.specs.declared.rename_flags.RenameFlags.TheVariants.{Exchange}
use Rattle.fa_bodies.specs.FlagBits.{fattr_size}
use Rattle.fa_bodies.specs.Flags.{HasFlag, fattr_bits}
use Rattle.fa_ledger.specs.Calls.{PlainCall}
use Rattle.fa_ledger.specs.declared.operation.Outcome.{Outcome}
use Rattle.fa_ledger.specs.declared.operation.Outcome.TheVariants.{Fails}
use Rattle.fa_ledger.specs.Operations.{PlainAction, PlainOperation, bare, action_ended}
use Rattle.fa_ledger.specs.Operations.PlainAction.{Getattr, Setattr, Readlink, Unlink, Rmdir, Rename2, Open, Read}
use Rattle.fa_ledger.specs.Operations.PlainOperation.{Lists, Acts}
use Rattle.fa_tree.specs.declared.error.StepError.{StepError}
use Rattle.fa_tree.specs.declared.error.StepError.TheVariants.{Refused, Memory}

-- It tells this code, and this is not so; or it tells want of memory, and this is so.
abbrev pub IsRefusal : StepError → (code : ℕ) → Type 0 → Type 0
IsRefusal e code Allowed = ((e ≡ Refused code) × (Allowed → ⊥)) ⊎ ((e ≡ Memory) × Allowed)

-- A success may take memory: where names, files, nodes, bytes or open directories come. GETATTR, READLINK, READ and OPEN take none, nor
-- what takes names away, nor RENAME2 that exchanges files, nor SETATTR without a size.
abbrev pub MayGrow : PlainAction → Type 0
MayGrow (Getattr o) = ⊥
MayGrow (Setattr a o) = HasFlag (fattr_bits a.valid) fattr_size
MayGrow (Readlink o) = ⊥
MayGrow (Unlink name o) = ⊥
MayGrow (Rmdir name o) = ⊥
MayGrow (Rename2 flags old_name new_name o) = flags ≢ Exchange
MayGrow (Open o) = ⊥
MayGrow (Read offset size o) = ⊥
MayGrow other = Unit {0}

-- no error came of it, and this is so
abbrev pub DoneAnd : Outcome (Unit {0}) → Type 0 → Type 0
DoneAnd (Fails error) Such = ⊥
DoneAnd other Such = Such

-- It tells the code of the first of these checks that fails. Or it tells want of memory: then no error was answered, a success may take
-- memory, and all checks hold. Of a request that lists they need not hold, as what was listed so far is looked through with memory.
abbrev pub TellsBy : StepError → PlainOperation → List (ℕ × Type 0) → Type 0
TellsBy (Refused code) o checks = FirstFailure checks code
TellsBy Memory (Lists l) checks = DoneAnd (bare l.outcome) (Unit {0})
TellsBy Memory (Acts a) checks = DoneAnd (action_ended a) (MayGrow a) × AllHold checks

-- the same of a call
abbrev pub TellsOf : StepError → PlainCall → List (ℕ × Type 0) → Type 0
TellsOf e call checks = TellsBy e call.operation checks
