-- The tree that a success leaves, in the words of its fields.
use Rattle.std.proofs.Common.{◌≡◌, ℕ, ℤ, Bool, List, [], ◌∷◌, Result, Ok, Err, refl, sym, subst}
use Rattle.std.specs.Prelude.{OnErr}
use Rattle.std.specs.FinMap.{FinMap}
use Rattle.fa_ledger.specs.declared.name.NodeName.{NodeName}
use Rattle.fa_ledger.specs.declared.operation.Outcome.{Outcome}
use Rattle.fa_ledger.specs.declared.operation.Outcome.TheVariants.{Fails, Succeeds, Unanswered}
use Rattle.fa_ledger.specs.Calls.{PlainCall}
use Rattle.fa_ledger.specs.Operations.{PlainAction}
use Rattle.fa_ledger.specs.Operations.PlainAction.{Getattr, Setattr, Readlink, Unlink, Rmdir, Rename2, Open, Read}
use Rattle.fa_ledger.specs.Operations.PlainOperation.{Acts}
use Rattle.fa_tree.specs.declared.id.FileId.{FileId}
use Rattle.fa_tree.specs.State.{Store, TreeState, node_cmp}
use Rattle.fa_tree.specs.Resolved.{Resolved}
use Rattle.fa_tree.specs.Operations.{action_said}
use Rattle.fa_tree.specs.Bindings.{bound, nodes_after}
use Rattle.fa_tree.specs.Steps.{opens_anew, setting, given_in, tree_done, tree_by}
use Rattle.fa_tree.specs.Refusals.{DoneAnd, MayGrow}
use Rattle.fa_tree.specs.parts.StoredParts.{StoredShown, stored_left}

-- what is stored after a success, with the nodes after it, is the tree that it leaves
pub left_tree : (old stored : StoredShown) (before nodes : FinMap node_cmp FileId) (t : TreeState) (x : Resolved) (call : PlainCall) (a : PlainAction) (count : ℕ)
    (given : List (NodeName × FileId)) → ◌≡◌ {A = TreeState} (record { store = old.store; nodes = before; handles = old.handles }) t
    → stored ≡ stored_left x call.truncates a call.asked (opens_anew call) count old
    → given_in (setting t.store x call (Acts a) count []) call (Acts a) ≡ given → nodes ≡ nodes_after given before
    → ◌≡◌ {A = TreeState} (record { store = stored.store; nodes = nodes; handles = stored.handles }) (tree_done t x call (Acts a) count)
left_tree old stored before nodes t x call a count given same left is now =
    subst (λ (v : TreeState). given_in (setting v.store x call (Acts a) count []) call (Acts a) ≡ given
    → ◌≡◌ {A = TreeState} (record { store = stored.store; nodes = nodes; handles = stored.handles }) (tree_done v x call (Acts a) count))
    same (λ told. rw (left, now, sym told) refl) is

-- without files no name is given for one
unbound : (names : List NodeName) (given : NodeName × FileId) → bound names [] ≡ given ∷ [] → ⊥
unbound [] given is = cc
unbound (name ∷ names) given is = cc

-- an action whose success gives a name to a node may grow
pub giving_grows : (before after : Store) (x : Resolved) (direct : Bool) (names : List NodeName) (a : PlainAction) (given : NodeName × FileId)
    → bound names (action_said before after x direct a).files ≡ given ∷ [] → MayGrow a
giving_grows before after x direct names (Getattr (Succeeds a)) given is = absurd (unbound names given is)
giving_grows before after x direct names (Getattr other) given is = absurd (unbound names given is)
giving_grows before after x direct names (Setattr set (Succeeds a)) given is = absurd (unbound names given is)
giving_grows before after x direct names (Setattr set other) given is = absurd (unbound names given is)
giving_grows before after x direct names (Readlink (Succeeds target)) given is = absurd (unbound names given is)
giving_grows before after x direct names (Readlink other) given is = absurd (unbound names given is)
giving_grows before after x direct names (Unlink name o) given is = absurd (unbound names given is)
giving_grows before after x direct names (Rmdir name o) given is = absurd (unbound names given is)
giving_grows before after x direct names (Rename2 flags old_name new_name o) given is = absurd (unbound names given is)
giving_grows before after x direct names (Open o) given is = absurd (unbound names given is)
giving_grows before after x direct names (Read offset size (Succeeds bytes)) given is = absurd (unbound names given is)
giving_grows before after x direct names (Read offset size other) given is = absurd (unbound names given is)
giving_grows before after x direct names other given is = tt

-- ---- by what came of it, which is no error

pub done_tree : (t done : TreeState) (e : Outcome (Unit {0})) → ((error : ℤ) → e ≡ Fails error → ⊥) → tree_by t done e ≡ done
done_tree t done (Fails error) not = absurd (not error refl)
done_tree t done (Succeeds success) not = refl
done_tree t done Unanswered not = refl

done_and : (e : Outcome (Unit {0})) (Such : Type 0) → ((error : ℤ) → e ≡ Fails error → ⊥) → Such → DoneAnd e Such
done_and (Fails error) Such not such = absurd (not error refl)
done_and (Succeeds success) Such not such = such
done_and Unanswered Such not such = such

pub err_done : {A E : Type 0} (r : Result A E) (e : Outcome (Unit {0})) (Such : Type 0) → ((error : ℤ) → e ≡ Fails error → ⊥) → OnErr r Such → OnErr r (DoneAnd e Such)
err_done (Ok v) e Such not such = tt
err_done (Err x) e Such not such = done_and e Such not such
