-- Calls that list, and what is judged of them.
use Rattle.std.specs.Prelude.{◌≡◌, ℕ, false, List, [], ◌∷◌, Option, Some}
use Rattle.std.specs.FinMap.{FinMap}
use Rattle.fa_capture.specs.declared.codes.TheConstants.{SUCCESS_NOT_ALLOWED, ATTRIBUTES, NODE_ID_OF_ANOTHER, LISTING}
use Rattle.fa_bodies.specs.Dirents.{PlainDirent}
use Rattle.fa_ledger.specs.declared.call.Listing.{Listing}
use Rattle.fa_ledger.specs.declared.name.NodeName.{NodeName}
use Rattle.fa_tree.specs.declared.id.FileId.{FileId}
use Rattle.fa_tree.specs.State.{Store, OpenDirectory, IsDirectory, node_cmp}
use Rattle.fa_tree.specs.Bindings.{AreBound, bound}
use Rattle.fa_tree.specs.Directories.{IsTypeOf, IsTypedIfLookedUp, IsTypedAsStayed, WasThere, IsThereIfLookedUp, TypesFit, files_on, EntriesAre}
use Rattle.fa_tree.specs.Operations.{Setting}
use Rattle.fa_tree.specs.Resolved.{Resolved}
use Rattle.fa_tree.specs.declared.error.StepError.{StepError}
use Rattle.fa_tree.specs.declared.error.StepError.TheVariants.{Refused, Memory}

-- what a call that lists is judged by, which leaves the store
abbrev pub settled : Store → Resolved → Option Listing → (so_far : List PlainDirent) → Setting
settled s x listing so_far = record { before = s; after = s; files = x; direct = false; listing = listing; so_far = so_far }

-- a refusal tells a code of which this holds, or want of memory, which may come
abbrev pub TellsSuch : StepError → (ℕ → Type 0) → (may_come : Type 0) → Type 0
TellsSuch (Refused code) Such may_come = Such code
TellsSuch Memory Such may_come = may_come

-- the checks of entries that answer a call which lists, with the nodes that they give, in the order of their codes
abbrev pub entries_checks : FinMap node_cmp FileId → Store → Resolved → Option Listing → (size : ℕ) → (so_far : List PlainDirent) → List NodeName → List PlainDirent → List (ℕ × Type 0)
entries_checks nodes s x listing size so_far given entries =
    (SUCCESS_NOT_ALLOWED, IsDirectory s x.node)
    ∷ (ATTRIBUTES, TypesFit s x.handle entries)
    ∷ (NODE_ID_OF_ANOTHER, AreBound nodes (bound given (files_on s x.handle entries)))
    ∷ (LISTING, EntriesAre s size x.handle listing so_far entries)
    ∷ []

-- the type in the attributes of an entry fits, if it looks its name up, as one fact
pub record IsTypedNow (s : Store) (directory : FileId) (d : PlainDirent) : Type 0 where
  pub typed : IsTypedIfLookedUp s directory d

-- the type of an entry is that of the file which stayed under its name, if one did
abbrev pub IsTypedAs : Store → Option FileId → PlainDirent → Type 0
IsTypedAs s stayed d = (file : FileId) → stayed ≡ Some file → IsTypeOf s file d

-- an entry is what the rule of listings allows, whatever the others are, as one fact
pub record IsAllowed (s : Store) (h : OpenDirectory) (d : PlainDirent) : Type 0 where
  pub there : WasThere h d
  pub typed : IsTypedAsStayed s h d
  pub now : IsThereIfLookedUp s h.directory d
