-- What holds of steps.
use Rattle.std.specs.Prelude.{◌≡◌, ◌⊎◌, ◌↔◌, ℕ, ℤ, Bool, List, [], Contains, Option, Some, option_map}
use Rattle.std.specs.Ordering.{nat_cmp}
use Rattle.std.specs.FinMap.{FinMap, get}
use Rattle.fa_capture.specs.Checks.{AllHold, FirstFailure}
use Rattle.fa_bodies.specs.declared.mode.Kind.{Kind}
use Rattle.fa_bodies.specs.Dirents.{PlainDirent}
use Rattle.fa_ledger.specs.declared.name.NodeName.{NodeName}
use Rattle.fa_ledger.specs.Calls.{PlainCall}
use Rattle.fa_bodies.specs.Requests.{PlainBody}
use Rattle.fa_bodies.specs.Replies.{PlainReply}
use Rattle.fa_ledger.specs.Kinds.{OnlyReads}
use Rattle.fa_ledger.specs.Operations.{PlainOperation, operation_of}
use Rattle.fa_tree.specs.declared.id.FileId.{FileId}
use Rattle.fa_tree.specs.declared.id.FileId.TheVariants as file_id
use Rattle.fa_tree.specs.Rules.{HasCause}
use Rattle.fa_tree.specs.State.{OpenDirectory, Store, TreeState, IsFile, IsOfKind}
use Rattle.fa_tree.specs.Resolved.{Resolved}
use Rattle.fa_tree.specs.Operations.{rule, changed, count_written}
use Rattle.fa_tree.specs.Edits.{Edit, open_after, handles_after}
use Rattle.fa_tree.specs.Steps.{setting, given_in, step_checks, Steps}
use Rattle.fa_tree.specs.Building.{empty_tree, file_of_kind, MayBeAdded, tree_added, MayBeLinkedTo, tree_linked}
use Rattle.fa_tree.specs.Shape.{IsTree}

-- From a tree a call leads to one tree at most.
abbrev pub StepIsOne : Type 0
StepIsOne =
    (old new other : TreeState) (call : PlainCall) (wrote : Option ℕ) (so_far : List PlainDirent)
    → Steps old new call wrote so_far → Steps old other call wrote so_far → new ≡ other

-- A call leads to another tree exactly where all its checks hold.
abbrev pub StepsWhereAllHold : Type 0
StepsWhereAllHold =
    (old : TreeState) (call : PlainCall) (wrote : Option ℕ) (so_far : List PlainDirent)
    → AllHold (step_checks old call wrote so_far) ↔ ((new : TreeState) × Steps old new call wrote so_far)

-- Where one is the first that fails, the call leads to none.
abbrev pub NoStepWhereOneFails : Type 0
NoStepWhereOneFails =
    (old new : TreeState) (call : PlainCall) (wrote : Option ℕ) (so_far : List PlainDirent) (code : ℕ)
    → FirstFailure (step_checks old call wrote so_far) code → Steps old new call wrote so_far → ⊥

-- What an operation needs and makes of the store, and the causes of its errors, are those of its request, whatever came of it.
abbrev pub OutcomeChangesNothing : Type 0
OutcomeChangesNothing =
    (s : Store) (x : Resolved) (body : PlainBody) (one two : Option PlainReply) (o p : PlainOperation) → operation_of body one ≡ Some o
    → operation_of body two ≡ Some p → (truncates : Bool) (count : ℕ)
    → (changed s x truncates p count ≡ changed s x truncates o count) × ((rule s x p).needs ↔ (rule s x o).needs)
    × ((error : ℤ) → HasCause (rule s x p) error ↔ HasCause (rule s x o) error)

-- What only reads leaves what is stored.
abbrev pub ReadingChangesNothing : Type 0
ReadingChangesNothing =
    (s : Store) (x : Resolved) (truncates : Bool) (o : PlainOperation) (count : ℕ) → OnlyReads o → changed s x truncates o count ≡ s

-- What only reads edits no names.
abbrev pub ReadingEditsNothing : Type 0
ReadingEditsNothing = (s : Store) (x : Resolved) (o : PlainOperation) → OnlyReads o → (rule s x o).edits ≡ []

-- Where nothing is edited, the open directories stay as they are.
abbrev pub WithoutEditsOpenStays : Type 0
WithoutEditsOpenStays = (handles : FinMap nat_cmp OpenDirectory) → handles_after [] handles ≡ handles

-- Edits change each open directory by itself.
abbrev pub EachOpenByItself : Type 0
EachOpenByItself =
    (edits : List Edit) (handles : FinMap nat_cmp OpenDirectory) (asked : ℕ)
    → get (handles_after edits handles) asked ≡ option_map (open_after edits) (get handles asked)

-- A name of a node stands for the same file after a step.
abbrev pub NamesKeepFiles : Type 0
NamesKeepFiles =
    (old new : TreeState) (call : PlainCall) (wrote : Option ℕ) (so_far : List PlainDirent) (name : NodeName) (file : FileId)
    → Steps old new call wrote so_far → get old.nodes name ≡ Some file → get new.nodes name ≡ Some file

-- After a success each name that its answer gives stands for the file of the reply.
abbrev pub GivenNamesStand : Type 0
GivenNamesStand =
    (old new : TreeState) (call : PlainCall) (wrote : Option ℕ) (so_far : List PlainDirent) (s : Steps old new call wrote so_far)
    → (name : NodeName) (file : FileId)
    → Contains (given_in (setting old.store s.files call call.operation (count_written call.operation wrote) so_far) call call.operation) (name, file)
    → get new.nodes name ≡ Some file

-- The empty tree is a tree, and what may be added to one leaves one.
pub record BuildingKeepsTrees : Type 0 where
  pub empty : (bits : ℕ) → IsTree (empty_tree bits).store
  pub added : (t : TreeState) (parent : FileId) (name : List ℕ) (kind : Kind) (bits : ℕ) (body : List ℕ) → IsTree t.store
      → MayBeAdded t parent name kind body → IsTree (tree_added t parent name (file_of_kind kind bits body)).store
  pub linked : (t : TreeState) (parent : FileId) (name : List ℕ) (file : FileId) → IsTree t.store
      → MayBeLinkedTo t parent name file → IsTree (tree_linked t parent name file).store

-- A success of a request leaves a tree where there was one.
abbrev pub ChangesKeepTrees : Type 0
ChangesKeepTrees =
    (s : Store) (x : Resolved) (truncates : Bool) (o : PlainOperation) (count : ℕ) → IsTree s → (rule s x o).needs
    → IsTree (changed s x truncates o count)

-- After a success each file is there still, and of its kind.
abbrev pub FilesStay : Type 0
FilesStay =
    (s : Store) (x : Resolved) (truncates : Bool) (o : PlainOperation) (count : ℕ) (id : FileId) (kind : Kind)
    → (rule s x o).needs → IsOfKind s id kind → IsOfKind (changed s x truncates o count) id kind

-- A request makes no file but its own: each that is there after it was there before, or is the one that it made.
abbrev pub OnlyItsOwnIsMade : Type 0
OnlyItsOwnIsMade =
    (s : Store) (x : Resolved) (truncates : Bool) (o : PlainOperation) (count : ℕ) (id : FileId)
    → IsFile (changed s x truncates o count) id → IsFile s id ⊎ (id ≡ file_id.Made x.asked)
