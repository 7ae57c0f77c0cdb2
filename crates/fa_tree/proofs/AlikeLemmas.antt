-- Trees that are alike: a call that uses no opening but those that count makes the same step of both, and leaves trees that are alike; or it
-- fails the same check of both.
use Rattle.std.proofs.Common.{◌≡◌, ℕ, List, ◌∷◌, [], Option, None, Some, refl, sym, ap, subst, ◌∙◌}
use Rattle.std.specs.FinMap.{FinMap, get}
use Rattle.fa_capture.specs.Checks.{AllHold, FirstFailure}
use Rattle.fa_capture.specs.declared.codes.TheConstants.{UNKNOWN_HERE}
use Rattle.fa_bodies.specs.Dirents.{PlainDirent}
use Rattle.fa_ledger.specs.declared.operation.Outcome.{Outcome}
use Rattle.fa_ledger.specs.declared.operation.Outcome.TheVariants.{Fails, Succeeds, Unanswered}
use Rattle.fa_ledger.specs.Calls.{PlainCall}
use Rattle.fa_ledger.specs.Operations.{ended}
use Rattle.fa_tree.specs.declared.id.FileId.{FileId}
use Rattle.fa_tree.specs.State.{Store, TreeState, node_cmp}
use Rattle.fa_tree.specs.Alike.{AreAlike}
use Rattle.fa_tree.specs.Resolved.{Resolved, resolved}
use Rattle.fa_tree.specs.Operations.{count_written}
use Rattle.fa_tree.specs.Bindings.{nodes_after}
use Rattle.fa_tree.specs.Steps.{setting, given_in, tree_done, tree_by, tree_after, operation_checks, checks_of_files, step_checks, Steps}
use Rattle.fa_tree.proofs.PartLemmas.{IsPartOf, UsesKept, resolved_within, done_part}

-- ---- trees that are alike

pub alike_self : (Counts : ℕ → Type 0) (t : TreeState) → AreAlike Counts t t
alike_self Counts t = record { store = refl; nodes = refl; handles = λ opened counts. refl }

pub alike_back : (Counts : ℕ → Type 0) (one other : TreeState) → AreAlike Counts one other → AreAlike Counts other one
alike_back Counts one other alike = record { store = sym alike.store; nodes = sym alike.nodes; handles = λ opened counts. sym (alike.handles opened counts) }

pub alike_on : (Counts : ℕ → Type 0) (one other third : TreeState) → AreAlike Counts one other → AreAlike Counts other third → AreAlike Counts one third
alike_on Counts one other third alike further = record {
  store = further.store ∙ alike.store;
  nodes = further.nodes ∙ alike.nodes;
  handles = λ opened counts. further.handles opened counts ∙ alike.handles opened counts;
}

-- they are alike where fewer openings count
pub alike_fewer : (Counts Fewer : ℕ → Type 0) (one other : TreeState) → ((opened : ℕ) → Fewer opened → Counts opened) → AreAlike Counts one other → AreAlike Fewer one other
alike_fewer Counts Fewer one other fewer alike = record { store = alike.store; nodes = alike.nodes; handles = λ opened counts. alike.handles opened (fewer opened counts) }

-- each is a part of the other
alike_part : (Counts : ℕ → Type 0) (one other : TreeState) → AreAlike Counts one other → IsPartOf Counts one other
alike_part Counts one other alike = record {
  store = alike.store;
  nodes = λ name file is. subst (λ (ns : FinMap node_cmp FileId). get ns name ≡ Some file) alike.nodes is;
  handles = alike.handles;
}

-- ---- steps

module _ (Counts : ℕ → Type 0) (one other : TreeState) (alike : AreAlike Counts one other) (call : PlainCall) (kept : UsesKept Counts call) where
  -- a call names the same in both
  resolved_alike : resolved other call ≡ resolved one call
  resolved_alike = by (resolved one call) (resolved other call) refl refl
    where
      by : (was is : Option Resolved) → resolved one call ≡ was → resolved other call ≡ is → resolved other call ≡ resolved one call
      by (Some x) is has now = resolved_within Counts other one (alike_part Counts other one (alike_back Counts one other alike)) call kept x has ∙ sym has
      by None (Some x) has now = now ∙ sym (resolved_within Counts one other (alike_part Counts one other alike) call kept x now)
      by None None has now = now ∙ sym has

  module _ (wrote : Option ℕ) (so_far : List PlainDirent) where
    abbrev written_count : ℕ
    written_count = count_written call.operation wrote

    -- what holds of its checks in one holds of them in the other
    checks_alike : (Such : List (ℕ × Type 0) → Type 0) → Such (step_checks one call wrote so_far) → Such (step_checks other call wrote so_far)
    checks_alike Such is =
        subst (λ (files : Option Resolved). Such (checks_of_files other call call.operation written_count so_far files)) (sym resolved_alike) (by (resolved one call) is)
      where
        by : (files : Option Resolved) → Such (checks_of_files one call call.operation written_count so_far files) → Such (checks_of_files other call call.operation written_count so_far files)
        by None is = is
        by (Some x) is =
            subst (λ (ns : FinMap node_cmp FileId). Such ((UNKNOWN_HERE, Unit {0}) ∷ operation_checks ns (setting other.store x call call.operation written_count so_far) call call.operation)) (sym alike.nodes)
            (subst (λ (s : Store). Such ((UNKNOWN_HERE, Unit {0}) ∷ operation_checks one.nodes (setting s x call call.operation written_count so_far) call call.operation)) (sym alike.store) is)

    -- so it fails the same one
    pub fails_alike : (code : ℕ) → FirstFailure (step_checks one call wrote so_far) code → FirstFailure (step_checks other call wrote so_far) code
    fails_alike code fails = checks_alike (λ checks. FirstFailure checks code) fails

    module _ (x : Resolved) where
      done_alike : AreAlike Counts (tree_done one x call call.operation written_count) (tree_done other x call call.operation written_count)
      done_alike =
          let done = done_part Counts one other (alike_part Counts one other alike) x call call.operation written_count in
          record {
            store = done.store;
            nodes =
                ap (λ (s : Store). nodes_after (given_in (setting s x call call.operation written_count []) call call.operation) other.nodes) alike.store
                ∙ ap (nodes_after (given_in (setting one.store x call call.operation written_count []) call call.operation)) alike.nodes;
            handles = done.handles;
          }

      after_alike : (e : Outcome (Unit {0}))
          → AreAlike Counts (tree_by one (tree_done one x call call.operation written_count) e) (tree_by other (tree_done other x call call.operation written_count) e)
      after_alike (Fails error) = alike
      after_alike (Succeeds success) = done_alike
      after_alike Unanswered = done_alike

    -- or it makes the same step
    pub step_alike : (new : TreeState) → Steps one new call wrote so_far → (after : TreeState) × Steps other after call wrote so_far × AreAlike Counts new after
    step_alike new s = (
      tree_after other s.files call call.operation written_count,
      record {
        allowed = checks_alike (λ checks. AllHold checks) s.allowed;
        files = s.files;
        named = resolved_alike ∙ s.named;
        after = refl;
      },
      subst (λ (t : TreeState). AreAlike Counts t (tree_after other s.files call call.operation written_count)) (sym s.after) (after_alike s.files (ended call.operation)),
    )
