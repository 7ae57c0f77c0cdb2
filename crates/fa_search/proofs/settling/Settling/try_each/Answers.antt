use Rattle.std.proofs.Common.{◌≡◌, List, [], Some, refl, sym, subst, ◌∙◌, inl}
use Rattle.std.specs.Prelude.{Contains, slice_get}
use Rattle.std.specs.Map.{values_of}
use Rattle.fa_ledger.specs.declared.calls.Calls.{Calls}
use Rattle.fa_search.specs.declared.flight.Pending.{Pending}
use Rattle.fa_search.specs.declared.settling.Origin.{Origin}
use Rattle.fa_search.specs.parts.Flight.{IsInFlight, IsFlight}
use Rattle.fa_search.specs.parts.Settling.{AreSettlingStill}
use Rattle.fa_search.proofs.TakenLemmas.{AreInFlight, AreTriedOrLeft, FollowsPending, flight_in_flight, first_in_flight, rest_in_flight, grown_same, grown_more, grown_get, tried_more, all_tried_spent}
use Rattle.fa_search.proofs.settling.Settling.try_each.Goals as goal

pub loop-pending-init : goal.loop-pending-init
loop-pending-init c =
    let begun = c.into_iter-pending-iterator.ensures.into_iter_gives ∙ c.values-pending-items.ensures.rest in
    let flight = c.args.flight.now in
    let calls = c.args.tries.now.replay.list in (
      refl,
      refl,
      grown_same c.args.self.now.work.items c.args.self.now.settled.items,
      λ messages first common held are settling. settling,
      subst (AreInFlight calls flight.at) (sym begun) (flight_in_flight calls flight c.requires.flight),
      λ pending has. inl (subst (λ (l : List Pending). Contains l pending) (sym begun) has),
      c.spend.ensures.budget,
    )

pub try_request-requires-clause-origin : goal.try_request-requires-clause-origin
try_request-requires-clause-origin c =
    let before = c.args.self.now in
    let old = c.loop-pending.self in
    let origin = c.args.origin.now in
    subst (λ (o : Origin). slice_get old.work.items o.place ≡ Some o.copy) (sym c.loop-pending.invariant.1)
    (grown_get before.work.items before.settled.items old.work.items old.settled.items origin.place origin.copy c.loop-pending.invariant.2 c.requires.origin)

pub try_request-requires-clause-pending : goal.try_request-requires-clause-pending
try_request-requires-clause-pending c =
    let at = c.args.flight.now.at in
    let pending = c.in-Some.pending.now in
    subst (λ (k : Calls). IsInFlight k.list at pending) (sym c.loop-pending.invariant.0)
    (first_in_flight c.args.tries.now.replay.list at c.loop-pending.pending-iterator pending c.next.new.self c.in-Some.ensures.steps c.loop-pending.invariant.4)

pub try_request-requires-clause-flight : goal.try_request-requires-clause-flight
try_request-requires-clause-flight c = subst (λ (k : Calls). IsFlight k.list c.args.flight.now) (sym c.loop-pending.invariant.0) c.requires.flight

pub returns-in_err-try_request-clause-same : goal.returns-in_err-try_request-clause-same
returns-in_err-try_request-clause-same c = c.try_request.ensures.same ∙ c.loop-pending.invariant.0

pub loop-pending-preserved : goal.loop-pending-preserved
loop-pending-preserved c =
    let before = c.args.self.now in
    let old = c.loop-pending.self in
    let new = c.try_request.new.self in
    let calls = c.args.tries.now.replay in
    let x = c.args.origin.now.copy in
    let at = c.args.flight.now.at in
    let asked = c.args.asked in
    let all = values_of c.args.flight.now.requests.entries in
    let left = c.loop-pending.pending-iterator in
    let rest = c.next.new.self in
    let pending = c.in-Some.pending.now in
    let steps = c.in-Some.ensures.steps in
    let still : AreSettlingStill calls at asked old.work.items old.settled.items new.work.items new.settled.items =
    subst (λ (k : Calls). AreSettlingStill k at asked old.work.items old.settled.items new.work.items new.settled.items) c.loop-pending.invariant.0 c.in_ok-try_request.ensures.settling in
    let follows : FollowsPending calls at x pending new.work.items new.settled.items =
    subst (λ (k : Calls). FollowsPending k at x pending new.work.items new.settled.items) c.loop-pending.invariant.0
    (subst (λ (o : Origin). FollowsPending c.loop-pending.tries.replay at o.copy pending new.work.items new.settled.items) c.loop-pending.invariant.1 c.in_ok-try_request.ensures.followed) in (
      c.try_request.ensures.same ∙ c.loop-pending.invariant.0,
      c.in_ok-try_request.ensures.origin ∙ c.loop-pending.invariant.1,
      grown_more before.work.items before.settled.items old.work.items old.settled.items new.work.items new.settled.items c.loop-pending.invariant.2 c.in_ok-try_request.ensures.grown,
      λ messages first common held are settling. still messages first common held are (c.loop-pending.invariant.3 messages first common held are settling),
      rest_in_flight calls.list at left pending rest steps c.loop-pending.invariant.4,
      tried_more calls at x all left rest pending old.work.items old.settled.items new.work.items new.settled.items c.in_ok-try_request.ensures.grown steps follows c.loop-pending.invariant.5,
      c.try_request.ensures.budget ∙ c.loop-pending.invariant.6,
    )

pub returns-clause-grown : goal.returns-clause-grown
returns-clause-grown c = c.loop-pending.invariant.2

pub returns-clause-settling : goal.returns-clause-settling
returns-clause-settling c = c.loop-pending.invariant.3

pub returns-clause-spent : goal.returns-clause-spent
returns-clause-spent c =
    let calls = c.args.tries.now.replay in
    let x = c.args.origin.now.copy in
    let flight = c.args.flight.now in
    let new = c.loop-pending.self in
    let all = values_of flight.requests.entries in
    let none : c.loop-pending.pending-iterator ≡ [] = c.in-None.ensures.steps.0 in
    all_tried_spent calls flight x new.work.items new.settled.items c.requires.flight
    (subst (λ (l : List Pending). AreTriedOrLeft calls flight.at x all l new.work.items new.settled.items) none c.loop-pending.invariant.5)

pub returns-clause-budget : goal.returns-clause-budget
returns-clause-budget c = c.loop-pending.invariant.6

pub returns-in_err-try_request-clause-budget : goal.returns-in_err-try_request-clause-budget
returns-in_err-try_request-clause-budget c = c.try_request.ensures.budget ∙ c.loop-pending.invariant.6

pub returns-clause-same : goal.returns-clause-same
returns-clause-same c = c.loop-pending.invariant.0
