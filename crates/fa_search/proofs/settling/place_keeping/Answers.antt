use Rattle.std.proofs.Common.{refl, sym, subst, ◌∙◌}
use Rattle.fa_ledger.specs.declared.calls.Calls.{Calls}
use Rattle.fa_check.specs.Verdicts.{AreMessagesOf}
use Rattle.fa_search.specs.parts.Flight.{IsInFlight, IsFlight}
use Rattle.fa_search.proofs.TracedLemmas.{further_same}
use Rattle.fa_search.proofs.TakenLemmas.{AreInFlight, flight_in_flight, first_in_flight, rest_in_flight, further_further}
use Rattle.fa_search.proofs.settling.place_keeping.Goals as goal

pub loop-pending-init : goal.loop-pending-init
loop-pending-init c =
    let begun = c.into_iter-pending-iterator.ensures.into_iter_gives ∙ c.values-pending-items.ensures.rest in
    let flight = c.args.flight.now in
    let calls = c.args.tries.now.replay.list in (
      refl,
      subst (AreInFlight calls flight.at) (sym begun) (flight_in_flight calls flight c.requires),
      λ messages are. further_same messages flight.at c.args.one.now,
      c.spend.ensures.budget,
    )

pub place_if_keeping-requires-clause-in_flight : goal.place_if_keeping-requires-clause-in_flight
place_if_keeping-requires-clause-in_flight c =
    let old = c.loop-pending.invariant in
    let at = c.args.flight.now.at in
    let pending = c.in-Some.pending.now in
    subst (λ (calls : Calls). IsInFlight calls.list at pending) (sym old.0)
    (first_in_flight c.args.tries.now.replay.list at c.loop-pending.pending-iterator pending c.next.new.self c.in-Some.ensures.steps old.1)

pub place_if_keeping-requires-clause-flight : goal.place_if_keeping-requires-clause-flight
place_if_keeping-requires-clause-flight c = subst (λ (calls : Calls). IsFlight calls.list c.args.flight.now) (sym c.loop-pending.invariant.0) c.requires

pub loop-pending-preserved : goal.loop-pending-preserved
loop-pending-preserved c =
    let old = c.loop-pending.invariant in
    let at = c.args.flight.now.at in
    let pending = c.in-Some.pending.now in
    let calls = c.args.tries.now.replay in (
      c.place_if_keeping.ensures.same ∙ old.0,
      rest_in_flight calls.list at c.loop-pending.pending-iterator pending c.next.new.self c.in-Some.ensures.steps old.1,
      λ messages are.
          further_further messages at c.args.one.now c.loop-pending.one c.place_if_keeping.new.one (old.2 messages are)
          (c.in_ok-place_if_keeping.ensures.further messages (subst (λ (x : Calls). AreMessagesOf x messages) (sym old.0) are)),
      c.place_if_keeping.ensures.budget ∙ old.3,
    )

pub returns-in_err-place_if_keeping-clause-budget : goal.returns-in_err-place_if_keeping-clause-budget
returns-in_err-place_if_keeping-clause-budget c = c.place_if_keeping.ensures.budget ∙ c.loop-pending.invariant.3

pub returns-in_err-place_if_keeping-clause-same : goal.returns-in_err-place_if_keeping-clause-same
returns-in_err-place_if_keeping-clause-same c = c.place_if_keeping.ensures.same ∙ c.loop-pending.invariant.0
