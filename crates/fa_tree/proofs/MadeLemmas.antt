-- Files that requests made: a step makes none but that of its own request, and trees that are put together have none.
use Rattle.std.proofs.Common.{◌≡◌, ◌⊎◌, ℕ, List, [], Option, None, Some, refl, sym, ap, subst, ◌∙◌, inl}
use Rattle.std.specs.Prelude.{option_map, option_and_then}
use Rattle.std.specs.FinMap.{empty, get-empty}
use Rattle.std.proofs.lemmas.Option.{same_Some}
use Rattle.fa_bodies.specs.Dirents.{PlainDirent}
use Rattle.fa_bodies.specs.declared.mode.Kind.TheVariants.{Directory}
use Rattle.fa_ledger.specs.declared.operation.Outcome.{Outcome}
use Rattle.fa_ledger.specs.declared.operation.Outcome.TheVariants.{Fails, Succeeds, Unanswered}
use Rattle.fa_ledger.specs.Calls.{PlainCall}
use Rattle.fa_ledger.specs.Operations.{ended}
use Rattle.fa_tree.specs.declared.id.FileId.{FileId}
use Rattle.fa_tree.specs.declared.id.FileId.TheVariants as file_id
use Rattle.fa_tree.specs.State.{File, OpenDirectory, TreeState, IsFile, file_cmp, file_of, root}
use Rattle.fa_tree.specs.Resolved.{Resolved, other_of, handle_of, resolved_with, resolved_on, resolved}
use Rattle.fa_tree.specs.Making.{HasMadeNone}
use Rattle.fa_tree.specs.Operations.{changed, count_written}
use Rattle.fa_tree.specs.Steps.{tree_done, tree_by, Steps}
use Rattle.fa_tree.specs.Building.{empty_tree, next_added, tree_added}
use Rattle.fa_tree.proofs.ShapeLemmas.{put_elsewhere, only_its_own_is_made}

-- ---- the number of a call

-- what a call names has the number of its request
resolved_asked : (t : TreeState) (call : PlainCall) (x : Resolved) → resolved t call ≡ Some x → x.asked ≡ call.asked
resolved_asked t call x is = by (file_of t call.node) is
  where
    by_handle : (node : FileId) (other : Option FileId) (found : Option (Option OpenDirectory))
        → option_map (λ handle. record { asked = call.asked; node = node; other = other; handle = handle }) found ≡ Some x → x.asked ≡ call.asked
    by_handle node other None some = absurd cc
    by_handle node other (Some handle) some =
        sym (ap (λ (y : Resolved). y.asked) (same_Some (record { asked = call.asked; node = node; other = other; handle = handle }) x some))

    by_other : (node : FileId) (found : Option (Option FileId)) → option_and_then (resolved_with t call node) found ≡ Some x → x.asked ≡ call.asked
    by_other node None some = absurd cc
    by_other node (Some other) some = by_handle node other (handle_of t call.listing call.handle) some

    by : (found : Option FileId) → option_and_then (resolved_on t call) found ≡ Some x → x.asked ≡ call.asked
    by None some = absurd cc
    by (Some node) some = by_other node (other_of t call.other) some

-- ---- steps

-- a file that is there after a step was there before, or is the one that the call's request made
pub step_makes_own : (old new : TreeState) (call : PlainCall) (wrote : Option ℕ) (so_far : List PlainDirent) (id : FileId) → Steps old new call wrote so_far
    → IsFile new.store id → IsFile old.store id ⊎ (id ≡ file_id.Made call.asked)
step_makes_own old new call wrote so_far id s is = by (ended call.operation) (subst (λ (t : TreeState). IsFile t.store id) s.after is)
  where
    count : ℕ
    count = count_written call.operation wrote

    made : IsFile (changed old.store s.files call.truncates call.operation count) id → IsFile old.store id ⊎ (id ≡ file_id.Made call.asked)
    made there =
        subst (λ asked. IsFile old.store id ⊎ (id ≡ file_id.Made asked)) (resolved_asked old call s.files s.named)
        (only_its_own_is_made old.store s.files call.truncates call.operation count id there)

    by : (e : Outcome (Unit {0})) → IsFile (tree_by old (tree_done old s.files call call.operation count) e).store id → IsFile old.store id ⊎ (id ≡ file_id.Made call.asked)
    by (Fails error) there = inl there
    by (Succeeds success) there = made there
    by Unanswered there = made there

-- ---- trees that are put together

-- in a root alone no request has made a file
pub empty_made_none : (bits asked : ℕ) → HasMadeNone (empty_tree bits).store asked
empty_made_none bits asked =
    put_elsewhere empty root (record { kind = Directory; bits = bits; bytes = [] }) (file_id.Made asked) refl ∙ get-empty file_cmp (file_id.Made asked)

-- and a file that is put in by name is none of a request's
pub added_made_none : (t : TreeState) (parent : FileId) (name : List ℕ) (file : File) (asked : ℕ) → HasMadeNone t.store asked
    → HasMadeNone (tree_added t parent name file).store asked
added_made_none t parent name file asked none = put_elsewhere t.store.files (next_added t) file (file_id.Made asked) refl ∙ none
