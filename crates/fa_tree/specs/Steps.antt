-- One step of the tree machine: the checks of a call, in the order of their codes, and the tree that it leaves.
use Rattle.std.specs.Prelude.{◌≡◌, ℕ, ℤ, Bool, false, List, [], ◌∷◌, slice_get, Option, Some, None}
use Rattle.std.specs.Option.{option_map_or}
use Rattle.std.specs.FinMap.{FinMap}
use Rattle.fa_capture.specs.Checks.{AllHold}
use Rattle.fa_capture.specs.declared.codes.TheConstants.{UNKNOWN_HERE, SUCCESS_NOT_ALLOWED, ERROR_WITHOUT_CAUSE, ATTRIBUTES, NODE_ID_OF_ANOTHER, BYTES_READ, LISTING}
use Rattle.fa_bodies.specs.Dirents.{PlainDirent}
use Rattle.fa_ledger.specs.declared.name.NodeName.{NodeName}
use Rattle.fa_ledger.specs.declared.operation.Outcome.{Outcome}
use Rattle.fa_ledger.specs.declared.operation.Outcome.TheVariants.{Fails, Succeeds, Unanswered}
use Rattle.fa_ledger.specs.Calls.{PlainCall}
use Rattle.fa_ledger.specs.Operations.{PlainOperation, ended}
use Rattle.fa_tree.specs.declared.id.FileId.{FileId}
use Rattle.fa_tree.specs.State.{Store, TreeState, node_cmp}
use Rattle.fa_tree.specs.Resolved.{Resolved, resolved}
use Rattle.fa_tree.specs.Edits.{handles_after}
use Rattle.fa_tree.specs.Opening.{with_opened}
use Rattle.fa_tree.specs.Rules.{HasCause}
use Rattle.fa_tree.specs.Operations.{Setting, rule, changed, said, directory_opened, count_written}
use Rattle.fa_tree.specs.Bindings.{AreBound, bound, nodes_after}

-- ---- what comes with an answer

-- the names that the answer gives, in their order
abbrev pub names_given : PlainCall → List NodeName
names_given call = option_map_or (λ answer. answer.given) call.answer []

-- the answer opens a handle that was not open
abbrev pub opens_anew : PlainCall → Bool
opens_anew call = option_map_or (λ answer. answer.opens) call.answer false

-- ---- the step

-- what an operation of a call is judged by that names these files
abbrev pub setting : Store → Resolved → PlainCall → PlainOperation → (count : ℕ) → (so_far : List PlainDirent) → Setting
setting s x call o count so_far = record {
  before = s;
  after = changed s x call.truncates o count;
  files = x;
  direct = call.direct;
  listing = call.listing;
  so_far = so_far;
}

-- the names of nodes that come with it, each with its file in the store that it left
abbrev pub given_in : Setting → PlainCall → PlainOperation → List (NodeName × FileId)
given_in g call o = bound (names_given call) (said g o).files

-- the tree after a success, answered or not: what the request makes of it, and what its answer adds, which is names of nodes, and the
-- directory that it opens. What was listed so far has no part in the names.
abbrev pub tree_done : TreeState → Resolved → PlainCall → PlainOperation → (count : ℕ) → TreeState
tree_done t x call o count = record {
  store = changed t.store x call.truncates o count;
  nodes = nodes_after (given_in (setting t.store x call o count []) call o) t.nodes;
  handles = with_opened (changed t.store x call.truncates o count).names (directory_opened x o) call.asked (opens_anew call)
      (handles_after (rule t.store x o).edits t.handles);
}

-- the tree after a call that names these files: an error leaves it as it is
abbrev pub tree_by : TreeState → (done : TreeState) → Outcome (Unit {0}) → TreeState
tree_by t done (Fails error) = t
tree_by t done (Succeeds success) = done
tree_by t done Unanswered = done

abbrev pub tree_after : TreeState → Resolved → PlainCall → PlainOperation → (count : ℕ) → TreeState
tree_after t x call o count = tree_by t (tree_done t x call o count) (ended o)

-- this holds unless an error came of it
abbrev pub UnlessFailed : Outcome (Unit {0}) → Type 0 → Type 0
UnlessFailed (Fails error) Such = Unit {0}
UnlessFailed (Succeeds success) Such = Such
UnlessFailed Unanswered Such = Such

-- this holds of the error that came of it, if one did
abbrev pub IfFailed : Outcome (Unit {0}) → (ℤ → Type 0) → Type 0
IfFailed (Fails error) Such = Such error
IfFailed (Succeeds success) Such = Unit {0}
IfFailed Unanswered Such = Unit {0}

-- The checks of an operation, in the order of their codes, where names of nodes stand for these files: a success is allowed and finds what
-- it says, an error has its cause, and what a success says is so.
abbrev pub operation_checks : FinMap node_cmp FileId → Setting → PlainCall → PlainOperation → List (ℕ × Type 0)
operation_checks nodes g call o =
    (SUCCESS_NOT_ALLOWED, UnlessFailed (ended o) ((rule g.before g.files o).needs × (said g o).found))
    ∷ (ERROR_WITHOUT_CAUSE, IfFailed (ended o) (HasCause (rule g.before g.files o)))
    ∷ (ATTRIBUTES, (said g o).attributes)
    ∷ (NODE_ID_OF_ANOTHER, AreBound nodes (given_in g call o))
    ∷ (BYTES_READ, (said g o).bytes)
    ∷ (LISTING, (said g o).listing)
    ∷ []

-- the checks of a call that names these files, if the tree knows all that it names
abbrev pub checks_of_files : TreeState → PlainCall → PlainOperation → (count : ℕ) → (so_far : List PlainDirent) → Option Resolved → List (ℕ × Type 0)
checks_of_files t call o count so_far None = (UNKNOWN_HERE, ⊥) ∷ []
checks_of_files t call o count so_far (Some x) = (UNKNOWN_HERE, Unit {0}) ∷ operation_checks t.nodes (setting t.store x call o count so_far) call o

-- The checks of a call: that the tree knows what it names, and then those of the files that it names.
abbrev pub step_checks : TreeState → PlainCall → (wrote : Option ℕ) → (so_far : List PlainDirent) → List (ℕ × Type 0)
step_checks t call wrote so_far =
    checks_of_files t call call.operation (count_written call.operation wrote) so_far (resolved t call)

-- The call leads from one tree to another: all checks hold, and the other is the tree after it.
pub record Steps (old new : TreeState) (call : PlainCall) (wrote : Option ℕ) (so_far : List PlainDirent) : Type 0 where
  pub allowed : AllHold (step_checks old call wrote so_far)
  pub files : Resolved
  pub named : resolved old call ≡ Some files
  pub after : new ≡ tree_after old files call call.operation (count_written call.operation wrote)

-- This holds of the call at that place in the list, if there is one.
abbrev pub OfCallAt : List PlainCall → (place : ℕ) → (PlainCall → Type 0) → Type 0
OfCallAt calls place Such = (call : PlainCall) → slice_get calls place ≡ Some call → Such call
