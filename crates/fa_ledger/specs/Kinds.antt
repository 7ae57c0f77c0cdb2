-- Kinds of requests: which act on the tree, and which of those leave what is stored, the names and the files, as it is (this profile).
use Rattle.std.specs.Prelude.{◌⊎◌, None, IsSome}
use Rattle.fa_bodies.specs.Requests.{PlainBody}
use Rattle.fa_ledger.specs.declared.operation.Outcome.{Outcome}
use Rattle.fa_ledger.specs.declared.operation.Outcome.TheVariants.{Fails}
use Rattle.fa_ledger.specs.Operations.{PlainAction, PlainOperation, operation_of, ended}
use Rattle.fa_ledger.specs.Operations.PlainAction.{Lookup, Getattr, Readlink, Read, Opendir}
use Rattle.fa_ledger.specs.Operations.PlainOperation.{Lists, Acts}

-- a tree request, one that acts on the tree: it is an operation
abbrev pub IsTreeRequest : PlainBody → Type 0
IsTreeRequest body = IsSome (operation_of body None)

-- An action that only asks, and leaves what is stored as it is, whatever came of it. The nodes that are known and the open directories are
-- not stored: LOOKUP may add one of the first, OPENDIR one of the second.
abbrev pub Reads : PlainAction → Type 0
Reads (Lookup name o) = Unit {0}
Reads (Getattr o) = Unit {0}
Reads (Readlink o) = Unit {0}
Reads (Read offset size o) = Unit {0}
Reads (Opendir o) = Unit {0}
Reads other = ⊥

-- an operation that only reads: one that lists, or an action that does
abbrev pub OnlyReads : PlainOperation → Type 0
OnlyReads (Lists l) = Unit {0}
OnlyReads (Acts a) = Reads a

-- an error came of it
abbrev pub IsFailure : Outcome (Unit {0}) → Type 0
IsFailure (Fails error) = Unit {0}
IsFailure other = ⊥

-- a request that came to this leaves what is stored as it is: it failed, or it only reads
abbrev pub KeepsTree : PlainOperation → Type 0
KeepsTree o = IsFailure (ended o) ⊎ OnlyReads o
