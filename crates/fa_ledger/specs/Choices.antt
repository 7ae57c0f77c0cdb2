-- What an order may say of a call.
use Rattle.std.specs.Prelude.{◌≡◌, ℕ, ◌≤◌, Option, Some, None}
use Rattle.fa_ledger.specs.Calls.{PlainAnswer, PlainCall}
use Rattle.fa_ledger.specs.Kinds.{OnlyReads}
use Rattle.fa_ledger.specs.Operations.{PlainOperation}
use Rattle.fa_ledger.specs.Operations.PlainAction.{Write}
use Rattle.fa_ledger.specs.Operations.PlainOperation.{Acts}

-- An order may take an unanswered request as done so: a WRITE with a count of at most its size, any other that may change what is stored
-- without one. What only reads changes nothing of it and is left out.
abbrev pub MayBePlaced : PlainOperation → Option ℕ → Type 0
MayBePlaced (Acts (Write offset size payload o)) wrote = (count : ℕ) × (wrote ≡ Some count) × (count ≤ size)
MayBePlaced o wrote = (OnlyReads o → ⊥) × (wrote ≡ None)

-- the choice of an entry is allowed for a call with this answer: none where the request was answered
abbrev pub AllowsBy : Option PlainAnswer → PlainOperation → Option ℕ → Type 0
AllowsBy (Some answer) o wrote = wrote ≡ None
AllowsBy None o wrote = MayBePlaced o wrote

-- an order may name the call with this count of bytes written
abbrev pub Allows : PlainCall → Option ℕ → Type 0
Allows call wrote = AllowsBy call.answer call.operation wrote
