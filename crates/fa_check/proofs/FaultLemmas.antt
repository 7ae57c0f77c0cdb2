-- The first entry at fault: there is one at most, and none in a legal run.
use Rattle.std.proofs.Common.{◌≡◌, ℕ, ◌<◌, ◌≤◌, List, ◌∷◌, ◌++◌, length, sym, ap, subst, ◌∙◌, inl, inr, arith}
use Rattle.std.proofs.lemmas.Bool.{cases_lt}
use Rattle.fa_capture.specs.Checks.{AllHold, FirstFailure}
use Rattle.fa_capture.specs.Message.{Message}
use Rattle.fa_capture.proofs.CallerLemmas.{no_failure, one_failure, same_parts, longer_front}
use Rattle.fa_tree.specs.State.{TreeState}
use Rattle.fa_tree.specs.Steps.{step_checks}
use Rattle.fa_order.specs.declared.entry.Entry.{Entry}
use Rattle.fa_check.specs.Runs.{EntrySteps, Runs}
use Rattle.fa_check.specs.Faults.{order_checks, EachPlaced, StepFails, EntryFails, IsEntryAtFault, LeavesOut, IsOrderAtFault}
use Rattle.fa_check.specs.Laws.{LegalHasNoFault}
use Rattle.fa_check.proofs.OrderLemmas.{valid_where_each_is_placed}
use Rattle.fa_check.proofs.RunLemmas.{call_one, run_is_one, run_at}

-- ---- one entry

-- a step that is taken fails no check
pub no_step_failure : (c : List Message) (old new : TreeState) (e : Entry) (code : ℕ) → EntrySteps old new c e → StepFails old c e code → ⊥
no_step_failure c old new e code is fails =
    let same = call_one c e.at is.call fails.call is.so_far fails.so_far is.of_request fails.of_request in
    let hold : AllHold (step_checks old fails.call e.wrote fails.so_far) =
    subst (λ s. AllHold (step_checks old fails.call e.wrote s)) same.1 (subst (λ x. AllHold (step_checks old x e.wrote is.so_far)) same.0 is.steps.allowed) in
    no_failure (step_checks old fails.call e.wrote fails.so_far) code hold fails.fails

-- the first check that a step fails is one
pub one_step_failure : (c : List Message) (tree : TreeState) (e : Entry) (a b : ℕ) → StepFails tree c e a → StepFails tree c e b → a ≡ b
one_step_failure c tree e a b is too =
    let same = call_one c e.at is.call too.call is.so_far too.so_far is.of_request too.of_request in
    let moved : FirstFailure (step_checks tree too.call e.wrote too.so_far) a =
    subst (λ s. FirstFailure (step_checks tree too.call e.wrote s) a) same.1 (subst (λ x. FirstFailure (step_checks tree x e.wrote is.so_far) a) same.0 is.fails) in
    one_failure (step_checks tree too.call e.wrote too.so_far) a b moved too.fails

-- an entry that is placed and has its step is at no fault
pub no_entry_failure : (c : List Message) (tree new : TreeState) (earlier : List Entry) (e : Entry) (code : ℕ) → AllHold (order_checks c earlier e) → EntrySteps tree new c e → EntryFails tree c earlier e code → ⊥
no_entry_failure c tree new earlier e code placed stepped fails =
    elim fails [
      | inl here ↦ no_failure (order_checks c earlier e) code placed here
      | inr step ↦ no_step_failure c tree new e code stepped step.1
    ]

-- an entry at fault fails one check first
one_entry_failure : (c : List Message) (tree : TreeState) (earlier : List Entry) (e : Entry) (a b : ℕ) → EntryFails tree c earlier e a → EntryFails tree c earlier e b → a ≡ b
one_entry_failure c tree earlier e a b fails others =
    elim fails [
      | inl here ↦ elim others [
        | inl too ↦ one_failure (order_checks c earlier e) a b here too
        | inr step ↦ absurd (no_failure (order_checks c earlier e) a step.0 here)
      ]
      | inr step ↦ elim others [
        | inl here ↦ absurd (no_failure (order_checks c earlier e) b step.0 here)
        | inr too ↦ one_step_failure c tree e a b step.1 too.1
      ]
    ]

-- ---- the first entry at fault

-- entries that are all placed and are a run have none at fault
pub placed_no_fault : (c : List Message) (first last : TreeState) (es : List Entry) (entry at code : ℕ) → EachPlaced c es → Runs first last c es → IsEntryAtFault c first es entry at code → ⊥
placed_no_fault c first last es entry at code placed run f =
    let stepped = run_at c first last f.earlier f.later f.e (subst (λ xs. Runs first last c xs) f.parts run) in
    let same : f.tree ≡ stepped.0 = run_is_one c first f.tree stepped.0 f.earlier f.run stepped.2 in
    no_entry_failure c stepped.0 stepped.1 f.earlier f.e code (placed f.earlier f.later f.e f.parts) stepped.3 (subst (λ t. EntryFails t c f.earlier f.e code) same f.fails)

-- an entry at fault does not stand before another
earlier_fault : (c : List Message) (first : TreeState) (es : List Entry) (entry at code other place told : ℕ)
    → (f : IsEntryAtFault c first es entry at code) (g : IsEntryAtFault c first es other place told) → length f.earlier < length g.earlier → ⊥
earlier_fault c first es entry at code other place told f g before =
    let mid : (mid : List Entry) × (g.earlier ≡ f.earlier ++ f.e ∷ mid) = longer_front f.earlier g.earlier f.later g.later f.e g.e (sym f.parts ∙ g.parts) before in
    let fault : IsEntryAtFault c first g.earlier entry at code = record {
      earlier = f.earlier;
      later = mid.0;
      e = f.e;
      tree = f.tree;
      parts = mid.1;
      number = f.number;
      message = f.message;
      placed = f.placed;
      run = f.run;
      fails = f.fails;
    } in
    placed_no_fault c first g.tree g.earlier entry at code g.placed g.run fault

-- two that stand at the same place are one
same_fault : (c : List Message) (first : TreeState) (es : List Entry) (entry at code other place told : ℕ)
    → (f : IsEntryAtFault c first es entry at code) (g : IsEntryAtFault c first es other place told) → length f.earlier ≡ length g.earlier
    → (entry ≡ other) × (at ≡ place) × (code ≡ told)
same_fault c first es entry at code other place told f g long =
    let same : (f.earlier ≡ g.earlier) × (f.e ≡ g.e) = same_parts f.earlier g.earlier f.later g.later f.e g.e (sym f.parts ∙ g.parts) long in
    let trees : f.tree ≡ g.tree = run_is_one c first f.tree g.tree g.earlier (subst (λ xs. Runs first f.tree c xs) same.0 f.run) g.run in
    let moved : EntryFails g.tree c g.earlier g.e code =
    subst (λ x. EntryFails g.tree c g.earlier x code) same.1 (subst (λ xs. EntryFails g.tree c xs f.e code) same.0 (subst (λ t. EntryFails t c f.earlier f.e code) trees f.fails)) in (
      f.number ∙ long ∙ sym g.number,
      f.message ∙ ap (λ (x : Entry). x.at) same.1 ∙ sym g.message,
      one_entry_failure c g.tree g.earlier g.e code told moved g.fails,
    )

-- the first entry at fault, its message and its code are one
one_entry_at_fault : (c : List Message) (first : TreeState) (es : List Entry) (entry at code other place told : ℕ)
    → IsEntryAtFault c first es entry at code → IsEntryAtFault c first es other place told → (entry ≡ other) × (at ≡ place) × (code ≡ told)
one_entry_at_fault c first es entry at code other place told f g =
    elim (cases_lt (length f.earlier) (length g.earlier)) [
      | inl before ↦ absurd (earlier_fault c first es entry at code other place told f g before)
      | inr far ↦ elim (cases_lt (length g.earlier) (length f.earlier)) [
        | inl before ↦ absurd (earlier_fault c first es other place told entry at code g f before)
        | inr near ↦ same_fault c first es entry at code other place told f g (omega (arith, far, near))
      ]
    ]

-- the least answered request that the entries leave out is one
one_left_out : (c : List Message) (first : TreeState) (es : List Entry) (entry at code other place told : ℕ)
    → LeavesOut c first es entry at code → LeavesOut c first es other place told → (entry ≡ other) × (at ≡ place) × (code ≡ told)
one_left_out c first es entry at code other place told l k =
    let low : at ≤ place = l.least place k.left_out in
    let high : place ≤ at = k.least at l.left_out in
    (l.number ∙ sym k.number, omega (arith, low, high), l.told ∙ sym k.told)

-- ---- orders

-- an order has one fault at most
pub one_order_at_fault : (c : List Message) (first : TreeState) (es : List Entry) (entry at code other place told : ℕ)
    → IsOrderAtFault c first es entry at code → IsOrderAtFault c first es other place told → (entry ≡ other) × (at ≡ place) × (code ≡ told)
one_order_at_fault c first es entry at code other place told fault too =
    elim fault [
      | inl f ↦ elim too [
        | inl g ↦ one_entry_at_fault c first es entry at code other place told f g
        | inr k ↦ absurd (placed_no_fault c first k.tree es entry at code k.placed k.run f)
      ]
      | inr l ↦ elim too [
        | inl g ↦ absurd (placed_no_fault c first l.tree es other place told l.placed l.run g)
        | inr k ↦ one_left_out c first es entry at code other place told l k
      ]
    ]

-- a legal run has none
pub legal_has_no_fault : LegalHasNoFault
legal_has_no_fault c first es entry at code legal fault =
    let valid = (valid_where_each_is_placed c es).0 legal.valid in
    elim fault [
      | inl f ↦ placed_no_fault c first legal.last es entry at code valid.0 legal.run f
      | inr l ↦ valid.1 at l.left_out
    ]
