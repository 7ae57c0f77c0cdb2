-- A success that only reads, opens no directory anew, and gives nodes that the tree knows leaves the tree as it is.
use Rattle.std.proofs.Common.{◌≡◌, ℕ, Bool, true, false, cond, List, [], ◌∷◌, Option, None, Some, refl, sym, ap, subst, ◌∙◌, inl, inr, ◌⊎◌, arith}
use Rattle.std.specs.Prelude.{Contains}
use Rattle.std.specs.Cmp.{nat_cmp_total}
use Rattle.std.specs.FinMap.{FinMap, get, insert, get-insert, same_map, nat_cmp-IsAntisymmetric}
use Rattle.std.specs.Ordering.{nat_cmp, eq_by_cmp, is_eq}
use Rattle.std.specs.declared.cmp.Ordering.{Ordering}
use Rattle.std.specs.declared.cmp.Ordering.TheVariants.{Less, Equal, Greater}
use Rattle.std.proofs.lemmas.Bool.{true≢false}
use Rattle.fa_capture.proofs.CallerLemmas.{contains_cases, contains_first, contains_behind}
use Rattle.fa_bodies.specs.Dirents.{PlainDirent}
use Rattle.fa_ledger.specs.declared.name.NodeName.{NodeName}
use Rattle.fa_ledger.specs.declared.operation.Outcome.TheVariants.{Succeeds}
use Rattle.fa_ledger.specs.Calls.{PlainCall}
use Rattle.fa_ledger.specs.Kinds.{OnlyReads}
use Rattle.fa_ledger.specs.Operations.{ended}
use Rattle.fa_tree.specs.declared.id.FileId.{FileId}
use Rattle.fa_tree.specs.State.{OpenDirectory, Store, TreeState, node_cmp}
use Rattle.fa_tree.specs.Operations.{said, count_written}
use Rattle.fa_tree.specs.Bindings.{bound, nodes_after}
use Rattle.fa_tree.specs.Steps.{names_given, opens_anew, setting, tree_done, tree_by, Steps}
use Rattle.fa_tree.proofs.CallerLemmas.{IsPartOf, node_total, node_same, whole_part, step_read}

-- ---- names that are given

-- names that tie are one
tied_same : (x y : NodeName) → eq_by_cmp node_cmp x y ≡ true → x ≡ y
tied_same x y tie = by (node_cmp x y) refl tie
  where
    by : (o : Ordering) → node_cmp x y ≡ o → is_eq o ≡ true → x ≡ y
    by Less is tied = absurd cc
    by Equal is tied = node_same x y is
    by Greater is tied = absurd cc

-- a name that is bound to a file is one of the names
bound_named : (names : List NodeName) (files : List (Option FileId)) (name : NodeName) (file : FileId) → Contains (bound names files) (name, file) → Contains names name
bound_named [] files name file has = absurd (omega (arith, has.1))
bound_named (n ∷ names) [] name file has = absurd (omega (arith, has.1))
bound_named (n ∷ names) (None ∷ files) name file has = contains_behind n names name (bound_named names files name file has)
bound_named (n ∷ names) (Some f ∷ files) name file has = elim (contains_cases (n, f) (bound names files) (name, file) has) [
  | inl here ↦ subst (Contains (n ∷ names)) (ap (λ (p : NodeName × FileId). p.0) here) (contains_first n names)
  | inr behind ↦ contains_behind n names name (bound_named names files name file behind)
]

-- what is known behind them was known before, or is one of them
after_cases : (given : List (NodeName × FileId)) (nodes : FinMap node_cmp FileId) (name : NodeName) (file : FileId) → get (nodes_after given nodes) name ≡ Some file
    → (get nodes name ≡ Some file) ⊎ ((other : FileId) × Contains given (name, other))
after_cases [] nodes name file is = inl is
after_cases (one ∷ given) nodes name file is = elim (after_cases given (insert nodes one.0 one.1) name file is) [
  | inl before ↦ by (eq_by_cmp node_cmp name one.0) refl (get-insert node_total nodes one.0 one.1 name) before
  | inr there ↦ inr (there.0, contains_behind one given (name, there.0) there.1)
]
  where
    by : (b : Bool) → eq_by_cmp node_cmp name one.0 ≡ b → get (insert nodes one.0 one.1) name ≡ cond b (Some one.1) (get nodes name) → get (insert nodes one.0 one.1) name ≡ Some file
        → (get nodes name ≡ Some file) ⊎ ((other : FileId) × Contains (one ∷ given) (name, other))
    by true tie has before =
        inr (one.1, subst (λ (n : NodeName). Contains (one ∷ given) (n, one.1)) (sym (tied_same name one.0 tie)) (contains_first one given))
    by false apart has before = inl (sym has ∙ before)

-- ---- the step

-- each of the names that the answer gives stands for a file
abbrev pub AreKnown : FinMap node_cmp FileId → List NodeName → Type 0
AreKnown nodes names = (name : NodeName) → Contains names name → (file : FileId) × (get nodes name ≡ Some file)

pub step_knowing_stays : (old new : TreeState) (call : PlainCall) (wrote : Option ℕ) (so_far : List PlainDirent) → OnlyReads call.operation → opens_anew call ≡ false
    → ended call.operation ≡ Succeeds tt → AreKnown old.nodes (names_given call) → Steps old new call wrote so_far → new ≡ old
step_knowing_stays old new call wrote so_far reads opens success known s =
    ap (λ (x : Store). made x new.nodes new.handles) (sym part.store)
    ∙ ap (λ (x : FinMap node_cmp FileId). made old.store x new.handles) nodes
    ∙ ap (λ (x : FinMap nat_cmp OpenDirectory). made old.store old.nodes x) handles
  where
    made : Store → FinMap node_cmp FileId → FinMap nat_cmp OpenDirectory → TreeState
    made store nodes handles = record { store = store; nodes = nodes; handles = handles }

    part : IsPartOf (λ asked. Unit {0}) new old
    part =
        step_read (λ asked. Unit {0}) old old new call wrote so_far (whole_part (λ asked. Unit {0}) old) s success (λ anew kept. true≢false (sym anew ∙ opens)) reads

    handles : new.handles ≡ old.handles
    handles = same_map nat_cmp_total nat_cmp-IsAntisymmetric new.handles old.handles (λ asked. sym (part.handles asked tt))

    files : List (Option FileId)
    files = (said (setting old.store s.files call call.operation (count_written call.operation wrote) []) call.operation).files

    after : new.nodes ≡ nodes_after (bound (names_given call) files) old.nodes
    after =
        ap (λ (t : TreeState). t.nodes)
        (s.after ∙ ap (tree_by old (tree_done old s.files call call.operation (count_written call.operation wrote))) success)

    nodes : new.nodes ≡ old.nodes
    nodes = same_map node_total node_same new.nodes old.nodes (λ name. by name (get new.nodes name) (get old.nodes name) refl refl)
      where
        by : (name : NodeName) (now was : Option FileId) → get new.nodes name ≡ now → get old.nodes name ≡ was → get new.nodes name ≡ get old.nodes name
        by name (Some file) was is before =
            elim (after_cases (bound (names_given call) files) old.nodes name file (subst (λ (ns : FinMap node_cmp FileId). get ns name ≡ Some file) after is)) [
              | inl same ↦ is ∙ sym same
              | inr given ↦
                  let one = known name (bound_named (names_given call) files name given.0 given.1) in
                  part.nodes name one.0 one.1 ∙ sym one.1
            ]
        by name None (Some file) is before = part.nodes name file before ∙ sym before
        by name None None is before = is ∙ sym before
