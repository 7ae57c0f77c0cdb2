-- What is placed in a configuration: behind a request that is placed, and behind one that was answered.
use Rattle.std.proofs.Common.{◌≡◌, ◌↔◌, ℕ, Bool, true, false, List, [], ◌∷◌, ◌++◌, refl, sym, ap, subst, ◌∙◌, inl, inr}
use Rattle.std.proofs.Common.{Ordering, Less, Equal, Greater}
use Rattle.std.specs.Prelude.{Contains, IsTrue}
use Rattle.std.specs.Ordering.{is_eq, nat_cmp}
use Rattle.std.specs.BTreeMap.{is_at}
use Rattle.std.specs.BTreeSet.{BTreeSet, contains, Updates}
use Rattle.std.proofs.lemmas.Bool.{cases_eq, true≢false}
use Rattle.std.proofs.lemmas.Cmp.{nat_cmp_total}
use Rattle.std.proofs.lemmas.Map.Lookups.{exact_unsigned}
use Rattle.std.proofs.lemmas.Map.Views.{btree_set_contains_iff}
use Rattle.fa_capture.specs.Checks.{FirstFailure}
use Rattle.fa_capture.specs.Message.{Message}
use Rattle.fa_ledger.specs.declared.calls.Calls.{Calls}
use Rattle.fa_ledger.specs.SoFar.{listing_so_far}
use Rattle.fa_tree.specs.State.{TreeState}
use Rattle.fa_tree.specs.Steps.{Steps, OfCallAt, step_checks}
use Rattle.fa_tree.specs.Refusals.{TellsOf}
use Rattle.fa_tree.specs.declared.error.StepError.{StepError}
use Rattle.fa_tree.specs.declared.error.StepError.TheVariants.{Refused, Memory}
use Rattle.fa_order.specs.declared.entry.Entry.{Entry}
use Rattle.fa_check.specs.Runs.{EntrySteps}
use Rattle.fa_check.specs.Verdicts.{AreMessagesOf}
use Rattle.fa_check.proofs.CallerLemmas.{call_of_message}
use Rattle.fa_search.specs.parts.Configurations.{PlainConfiguration, IsOneMore, IsOneLess}
use Rattle.fa_search.specs.parts.Placed.{MayBePlacedAt, IsPlacedIn, IsRefusedIn}
use Rattle.fa_search.proofs.TriedLemmas.{call_steps}

-- ---- sets of numbers

-- a set has the numbers that are among its keys
set_has : (s : BTreeSet ℕ) (k : ℕ) → IsTrue (contains nat_cmp s k) ↔ Contains s.keys k
set_has s k = btree_set_contains_iff nat_cmp_total exact_unsigned s k

pub told_by_set : (placed : List ℕ) (s : BTreeSet ℕ) (k : ℕ) (told : Bool) → s.keys ≡ placed → told ≡ contains nat_cmp s k → IsTrue told ↔ Contains placed k
told_by_set placed s k told shown is = (
  (λ told_so. subst (λ (ks : List ℕ). Contains ks k) shown ((set_has s k).0 (sym is ∙ told_so))),
  (λ has. is ∙ (set_has s k).1 (subst (λ (ks : List ℕ). Contains ks k) (sym shown) has)),
)

module _ (old new : BTreeSet ℕ) (k : ℕ) where
  -- another number is told apart
  apart : (p : ℕ) → (k ≡ p → ⊥) → is_at (nat_cmp k) p ≡ false
  apart p other = by (nat_cmp k p) refl
    where
      by : (r : Ordering) → nat_cmp k p ≡ r → is_at (nat_cmp k) p ≡ false
      by Less e = ap (λ r. is_eq r) e
      by Equal e = absurd (other (exact_unsigned k p e))
      by Greater e = ap (λ r. is_eq r) e

  module _ (put : Bool) (updates : Updates nat_cmp old new k put) where
    -- the others stay
    others : (p : ℕ) → (k ≡ p → ⊥) → Contains new.keys p ↔ Contains old.keys p
    others p other =
        let same : contains nat_cmp new p ≡ contains nat_cmp old p = updates.2 p (apart p other) in (
          (λ has. (set_has old p).0 (sym same ∙ (set_has new p).1 has)),
          (λ has. (set_has new p).0 (same ∙ (set_has old p).1 has)),
        )

  -- a number that is put into the set is there, with those that were
  pub set_one_more : Updates nat_cmp old new k true → IsOneMore old.keys k new.keys
  set_one_more updates p = elim (cases_eq k p) [
    | inl same ↦ (
      (λ has. inr same),
      (λ has. subst (Contains new.keys) same ((set_has new k).0 updates.1)),
    )
    | inr other ↦ (
      (λ has. inl ((others true updates p other).0 has)),
      (λ has. elim has [ inl was ↦ (others true updates p other).1 was | inr same ↦ absurd (other same) ]),
    )
  ]

  -- one that is taken out is not, and the others are
  pub set_one_less : Updates nat_cmp old new k false → IsOneLess old.keys k new.keys
  set_one_less updates p = (
    (λ has.
        let other : k ≡ p → ⊥ = λ same. true≢false (sym ((set_has new k).1 (subst (Contains new.keys) (sym same) has)) ∙ updates.1) in
        ((others false updates p other).0 has, other)),
    (λ was. (others false updates p was.1).1 was.0),
  )

-- ---- a step that is taken or refused

module _ (calls : Calls) (place : ℕ) (e : Entry) (may : MayBePlacedAt calls.list place e) where
  -- the step of the call is that of the entry
  pub placed_steps : (old new : TreeState) → OfCallAt calls.list place (λ call. Steps old new call e.wrote (listing_so_far calls.list place)) → (c : List Message) → AreMessagesOf calls c → EntrySteps old new c e
  placed_steps old new steps c is = call_steps c calls.list is.are 0 place may.0 may.1 old new e may.2 (steps may.0 may.1)

  -- and where it is refused, so is the entry
  pub placed_refused : (old new : PlainConfiguration) (tree : TreeState) (error : StepError) → tree ≡ old.tree → new ≡ old
      → OfCallAt calls.list place (λ call. TellsOf error call (step_checks tree call e.wrote (listing_so_far calls.list place))) → IsRefusedIn calls old new e error
  placed_refused old new tree (Refused code) of same refused = (
    same,
    (λ c is. record {
      call = may.0;
      so_far = listing_so_far calls.list place;
      of_request = call_of_message c calls.list is.are place e.at may.0 may.1 may.2;
      fails = subst (λ (t : TreeState). FirstFailure (step_checks t may.0 e.wrote (listing_so_far calls.list place)) code) of (refused may.0 may.1);
    }),
  )
  placed_refused old new tree Memory of same refused = tt

-- an entry that was noted behind its step is placed
pub noted_placed : (c : List Message) (e : Entry) (old stepped new : PlainConfiguration) (tree : TreeState) → tree ≡ old.tree → stepped.placed ≡ old.placed → stepped.entries ≡ old.entries
    → EntrySteps tree stepped.tree c e → IsOneMore stepped.placed e.at new.placed → new.entries ≡ stepped.entries ++ e ∷ [] → new.tree ≡ stepped.tree → IsPlacedIn c old e new
noted_placed c e old stepped new tree from placed entries steps more behind left = record {
  steps = subst (λ (t : TreeState). EntrySteps old.tree t c e) (sym left) (subst (λ (t : TreeState). EntrySteps t stepped.tree c e) from steps);
  placed = subst (λ (ps : List ℕ). IsOneMore ps e.at new.placed) placed more;
  entries = behind ∙ ap (λ (es : List Entry). es ++ e ∷ []) entries;
}
