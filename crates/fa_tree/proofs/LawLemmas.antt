-- What follows from the definitions of a step, and of trees that are put together.
use Rattle.std.proofs.Common.{◌≡◌, ℕ, List, Option, None, Some, refl, sym, ap, ◌∙◌, arith}
use Rattle.std.specs.FinMap.{len}
use Rattle.std.proofs.lemmas.Option.{same_Some}
use Rattle.fa_capture.specs.Checks.{AllHold}
use Rattle.fa_capture.proofs.CallerLemmas.{no_failure}
use Rattle.fa_bodies.specs.Dirents.{PlainDirent}
use Rattle.fa_ledger.specs.Calls.{PlainCall}
use Rattle.fa_ledger.specs.Operations.{PlainOperation}
use Rattle.fa_tree.specs.declared.id.FileId.{FileId}
use Rattle.fa_tree.specs.State.{TreeState, IsDirectory}
use Rattle.fa_tree.specs.Resolved.{Resolved, resolved}
use Rattle.fa_tree.specs.Operations.{count_written}
use Rattle.fa_tree.specs.Steps.{checks_of_files, step_checks, tree_after, Steps}
use Rattle.fa_tree.specs.Building.{file_of_kind, next_added, IsNonDirectory}
use Rattle.fa_tree.specs.Laws.{StepIsOne, StepsWhereAllHold, NoStepWhereOneFails, BuildingKeepsTrees}
use Rattle.fa_tree.proofs.ShapeLemmas.{empty_is_tree, making_keeps_tree, linking_keeps_tree}

-- where all checks hold there is a next tree
next_tree : (old : TreeState) (call : PlainCall) (wrote : Option ℕ) (so_far : List PlainDirent) → AllHold (step_checks old call wrote so_far)
    → (new : TreeState) × Steps old new call wrote so_far
next_tree old call wrote so_far all = by (resolved old call) refl all
  where
    o : PlainOperation
    o = call.operation

    by : (files : Option Resolved) → resolved old call ≡ files → AllHold (checks_of_files old call o (count_written o wrote) so_far files) → (new : TreeState) × Steps old new call wrote so_far
    by None is none = absurd none.0
    by (Some files) is hold = (tree_after old files call o (count_written o wrote), record { allowed = all; files = files; named = is; after = refl })

pub steps_where_all_hold : StepsWhereAllHold
steps_where_all_hold old call wrote so_far = (next_tree old call wrote so_far, λ next. next.1.allowed)

-- a step is one
pub step_is_one : StepIsOne
step_is_one old new other call wrote so_far s t =
    let files : s.files ≡ t.files = same_Some s.files t.files (sym s.named ∙ t.named) in
    s.after ∙ ap (λ x. tree_after old x call call.operation (count_written call.operation wrote)) files ∙ sym t.after

pub no_step_where_one_fails : NoStepWhereOneFails
no_step_where_one_fails old new call wrote so_far code failure steps = no_failure (step_checks old call wrote so_far) code steps.allowed failure

-- what is no directory is none
none_of_other : (t : TreeState) (file : FileId) → IsNonDirectory t.store file → IsDirectory t.store file → ⊥
none_of_other t file is directory = is.2 (ap (λ f. f.kind) (same_Some is.0 directory.0 (sym is.1 ∙ directory.1)) ∙ directory.2)

pub building_keeps_trees : BuildingKeepsTrees
building_keeps_trees = record {
  empty = empty_is_tree;
  added = λ t parent name kind bits body tree may. making_keeps_tree t.store (next_added t) parent name (file_of_kind kind bits body) tree may.0.0.0 (tree.next (len t.store.files) (omega arith)) refl;
  linked = λ t parent name file tree may.
      linking_keeps_tree t.store parent name file tree may.0.0.0 (may.2.0, may.2.1) (none_of_other t file may.2);
}
