-- Requests in flight that leave the tree of a configuration, and each later one, as what is kept of them tells.
use Rattle.std.proofs.Common.{◌≡◌, ◌⊎◌, ℕ, ◌<◌, List, [], ◌∷◌, length, Option, Some, None, refl, sym, subst, inl, inr, arith}
use Rattle.std.proofs.Math.Logic.{∥∥₁_elim}
use Rattle.std.specs.Prelude.{Contains, IfSome}
use Rattle.std.proofs.lemmas.List.Elements.{All-contains}
use Rattle.fa_capture.specs.Message.{Message}
use Rattle.fa_capture.proofs.CallerLemmas.{contains_cases, contains_first}
use Rattle.fa_ledger.specs.declared.name.NodeName.{NodeName}
use Rattle.fa_ledger.specs.declared.name.NodeName.TheVariants.{Root, Given}
use Rattle.fa_ledger.specs.Calls.{PlainAnswer, PlainCall, AreCalls}
use Rattle.fa_ledger.specs.Kinds.{IsFailure, OnlyReads}
use Rattle.fa_ledger.specs.Operations.{PlainOperation, ended}
use Rattle.fa_ledger.specs.Operations.PlainAction.{Write}
use Rattle.fa_ledger.specs.Operations.PlainOperation.{Acts}
use Rattle.fa_ledger.specs.Passing.{AreGood}
use Rattle.fa_ledger.proofs.CallerLemmas.{call_at, calls_end_where_answered}
use Rattle.fa_tree.specs.Steps.{names_given}
use Rattle.fa_search.specs.declared.flight.InFlight.{InFlight}
use Rattle.fa_search.specs.declared.flight.Pending.{Pending}
use Rattle.fa_search.specs.parts.Configurations.{PlainConfiguration, most_written, IsCountUpTo, IsGivenUpTo, GivesUpTo, IsKnown, MakesKnown, KnowsGiven, LeavesFrom, LeavesIfKnown}
use Rattle.fa_search.specs.parts.Flight.{IsInFlight, IsFlight, IsGivenByPlaced, IsToldIdle}
use Rattle.fa_search.specs.parts.Placed.{MayBePlacedAt, IsPlacedIn}
use Rattle.fa_search.specs.parts.Settling.{IsFurther}
use Rattle.fa_search.proofs.GivenLemmas.{call_makes_known, earlier_known, call_leaves, knowing_leaves}
use Rattle.fa_search.proofs.TracedLemmas.{in_flight_placed, in_flight_tried, further_same, further_placed}
use Rattle.fa_search.proofs.TakenLemmas.{flight_in_flight}

-- ---- what is kept of it

module _ (calls : List PlainCall) (at : ℕ) (pending : Pending) (is : IsInFlight calls at pending) where
  kept_up_to : (reply : ℕ) → pending.gives_up_to ≡ Some reply → GivesUpTo reply is.call
  kept_up_to reply told = subst (λ (found : Option ℕ). IfSome found (λ r. GivesUpTo r is.call)) told is.kept.up_to

  kept_gives : (name : NodeName) → pending.gives ≡ Some name → names_given is.call ≡ name ∷ []
  kept_gives name told = subst (λ (found : Option NodeName). IfSome found (λ n. names_given is.call ≡ n ∷ [])) told is.kept.gives

-- ---- an order says no count of it

-- of what fails only where it has an answer, an order says no count, if it failed or only reads
no_count : (answer : Option PlainAnswer) (o : PlainOperation) → IsFailure (ended o) ⊎ OnlyReads o → (answer ≡ None → IsFailure (ended o) → ⊥) → IsCountUpTo (most_written answer o) None
no_count None (Acts (Write offset size payload o)) keeps unfailed = absurd (elim keeps [ inl fails ↦ unfailed refl fails | inr reads ↦ reads ])
no_count None other keeps unfailed = refl
no_count (Some answer) o keeps unfailed = refl

module _ (calls : List PlainCall) (messages at : ℕ) (good : ∥ ((c : List Message) × AreGood c × (messages ≡ length c) × AreCalls c calls) ∥₁) (pending : Pending) (is : IsInFlight calls at pending) where
  -- a call fails only where it has an answer
  unanswered_unfailed : is.call.answer ≡ None → IsFailure (ended is.call.operation) → ⊥
  unanswered_unfailed none fails = ∥∥₁_elim good (λ x y. absurd x) (λ some.
      let is_call = call_at some.3.events calls some.3.exact.each pending.place is.call is.listed in
      subst IsFailure ((calls_end_where_answered some.0 some.3.events is.call some.3.are is_call).1 none) fails)

  -- so what is told to leave the tree has no count
  pub told_without : (flight : InFlight) (x : PlainConfiguration) → IsToldIdle flight x pending → IsCountUpTo pending.most None
  told_without flight x told = subst (λ (most : Option ℕ). IsCountUpTo most None) (sym is.kept.most) (no_count is.call.answer is.call.operation kinds unanswered_unfailed)
    where
      kinds : IsFailure (ended is.call.operation) ⊎ OnlyReads is.call.operation
      kinds = elim told [
        | inl keeps ↦ elim (is.kept.keeps keeps) [ inl fails ↦ inl fails | inr reads ↦ inr reads.0 ]
        | inr up ↦ inr (kept_up_to calls at pending is up.0 up.1).0
      ]

  pub told_placed : (flight : InFlight) (x : PlainConfiguration) → IsToldIdle flight x pending → MayBePlacedAt calls pending.place (record { at = pending.asked; wrote = None })
  told_placed flight x told = in_flight_placed calls at pending is None (told_without flight x told)

-- ---- it leaves the tree

module _ (c : List Message) (calls : List PlainCall) (are : AreCalls c calls) (flight : InFlight) (is_flight : IsFlight calls flight) (pending : Pending) (is : IsInFlight calls flight.at pending)
    (x : PlainConfiguration) (knows : KnowsGiven c flight.at (Contains x.placed) x.tree) where
  -- the tree knows the node that a placed request gives
  placed_known : IsGivenByPlaced flight x pending → (name : NodeName) → Contains (names_given is.call) name → IsKnown name x.tree
  placed_known by name has =
      let other : Pending = by.0 in
      let other_is : IsInFlight calls flight.at other = flight_in_flight calls flight is_flight other by.2 in
      let given : names_given other_is.call ≡ by.1 ∷ [] = kept_gives calls flight.at other other_is by.1 by.4 in
      let there : Contains (names_given other_is.call) by.1 = subst (λ (names : List NodeName). Contains names by.1) (sym given) (contains_first by.1 []) in
      let makes : MakesKnown c other.asked by.1 =
      subst (λ (p : ℕ). MakesKnown c p by.1) (sym other_is.kept.number) (call_makes_known c calls are other.place other_is.call other_is.listed by.1 there) in
      let known : IsKnown by.1 x.tree = knows other.asked by.1 (inr by.3) makes in
      elim (contains_cases by.1 [] name (subst (λ (names : List NodeName). Contains names name) (kept_gives calls flight.at pending is by.1 by.5) has)) [
        | inl here ↦ subst (λ (n : NodeName). IsKnown n x.tree) here known
        | inr none ↦ absurd (omega (arith, none.1))
      ]

  -- and those that replies before the message were the first to give
  replied_known : (reply : ℕ) → pending.gives_up_to ≡ Some reply → reply < flight.at → (name : NodeName) → Contains (names_given is.call) name → IsKnown name x.tree
  replied_known reply up early name has =
      by_name name has (All-contains (IsGivenUpTo reply) (names_given is.call) name (kept_up_to calls flight.at pending is reply up).2 has)
    where
      by_name : (name : NodeName) → Contains (names_given is.call) name → IsGivenUpTo reply name → IsKnown name x.tree
      by_name Root given none = absurd none
      by_name (Given g id) given within =
          earlier_known c calls are pending.place is.call is.listed flight.at (Contains x.placed) x.tree knows g id given (omega (arith, early, within))

  -- so it leaves the tree, and each later one
  told_leaves : IsToldIdle flight x pending → LeavesFrom c x.tree pending.asked
  told_leaves told = subst (LeavesFrom c x.tree) (sym is.kept.number) (elim told [
    | inl keeps ↦ call_leaves c calls are pending.place is.call is.listed (is.kept.keeps keeps) x.tree
    | inr up ↦ knowing_leaves c calls are pending.place is.call is.listed up.0 (kept_up_to calls flight.at pending is up.0 up.1) x.tree (elim up.2 [
      | inl early ↦ replied_known up.0 up.1 early
      | inr placed ↦ placed_known placed
    ])
  ])

-- if the tree knows what was given
pub told_leaves_known : (c : List Message) (calls : List PlainCall) → AreCalls c calls → (flight : InFlight) → IsFlight calls flight → (pending : Pending) → IsInFlight calls flight.at pending
    → (x : PlainConfiguration) → IsToldIdle flight x pending → LeavesIfKnown c flight.at x pending.asked
told_leaves_known c calls are flight is_flight pending is x told knows = told_leaves c calls are flight is_flight pending is x knows told

-- and where it is placed, what it leads to is further on
pub leaving_further : (c : List Message) (calls : List PlainCall) → AreCalls c calls → (at : ℕ) (pending : Pending) → IsInFlight calls at pending → IsCountUpTo pending.most None
    → (x y : PlainConfiguration) → LeavesIfKnown c at x pending.asked → (Contains x.placed pending.asked → ⊥) → IsPlacedIn c x (record { at = pending.asked; wrote = None }) y → IsFurther c at x y
leaving_further c calls are at pending is without x y leaves lacks in_it =
    further_placed c at x x y (record { at = pending.asked; wrote = None }) (in_flight_tried calls at pending is c are None without) leaves lacks in_it (further_same c at x)
