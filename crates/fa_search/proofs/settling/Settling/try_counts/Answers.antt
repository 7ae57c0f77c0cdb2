use Rattle.std.proofs.Common.{◌≡◌, ◌+◌, ◌<◌, Some, refl, sym, subst, ◌∙◌, arith}
use Rattle.std.specs.Prelude.{Contains, slice_get}
use Rattle.fa_ledger.specs.declared.calls.Calls.{Calls}
use Rattle.fa_order.specs.declared.entry.Entry.{Entry}
use Rattle.fa_search.specs.declared.settling.Origin.{Origin}
use Rattle.fa_search.specs.parts.Flight.{IsInFlight, IsFlight}
use Rattle.fa_search.specs.parts.Settling.{AreGrown, AreSettlingStill}
use Rattle.fa_search.proofs.TakenLemmas.{FollowsEntry, FollowsCounts, counts_more, grown_same, grown_more, grown_get}
use Rattle.fa_search.proofs.settling.Settling.try_counts.Goals.{In_ok-try_entry}
use Rattle.fa_search.proofs.settling.Settling.try_counts.Goals as goal

pub loop-count-init : goal.loop-count-init
loop-count-init c = (
  refl,
  refl,
  grown_same c.args.self.now.work.items c.args.self.now.settled.items,
  λ messages first common held are settling. settling,
  λ messages count new are less steps. absurd (omega (arith, less)),
  refl,
)

pub try_entry-requires-clause-origin : goal.try_entry-requires-clause-origin
try_entry-requires-clause-origin c =
    let before = c.args.self.now in
    let old = c.loop-count.self in
    let origin = c.args.origin.now in
    subst (λ (o : Origin). slice_get old.work.items o.place ≡ Some o.copy) (sym c.loop-count.invariant.1)
    (grown_get before.work.items before.settled.items old.work.items old.settled.items origin.place origin.copy c.loop-count.invariant.2 c.requires.origin)

pub try_entry-requires-clause-pending : goal.try_entry-requires-clause-pending
try_entry-requires-clause-pending c = subst (λ (k : Calls). IsInFlight k.list c.args.flight.now.at c.args.pending) (sym c.loop-count.invariant.0) c.requires.pending

pub try_entry-requires-clause-lacks : goal.try_entry-requires-clause-lacks
try_entry-requires-clause-lacks c = subst (λ (o : Origin). Contains o.copy.placed c.args.pending.asked → ⊥) (sym c.loop-count.invariant.1) c.requires.lacks

pub try_entry-requires-clause-flight : goal.try_entry-requires-clause-flight
try_entry-requires-clause-flight c = subst (λ (k : Calls). IsFlight k.list c.args.flight.now) (sym c.loop-count.invariant.0) c.requires.flight

-- what holds behind one count more
grown_now : (c : In_ok-try_entry) → AreGrown c.args.self.now.work.items c.args.self.now.settled.items c.try_entry.new.self.work.items c.try_entry.new.self.settled.items
grown_now c =
    let before = c.args.self.now in
    let old = c.loop-count.self in
    let new = c.try_entry.new.self in
    grown_more before.work.items before.settled.items old.work.items old.settled.items new.work.items new.settled.items c.loop-count.invariant.2 c.in_ok-try_entry.ensures.grown

settling_now : (c : In_ok-try_entry)
    → AreSettlingStill c.args.tries.now.replay c.args.flight.now.at c.args.asked c.args.self.now.work.items c.args.self.now.settled.items c.try_entry.new.self.work.items c.try_entry.new.self.settled.items
settling_now c =
    let old = c.loop-count.self in
    let new = c.try_entry.new.self in
    let still : AreSettlingStill c.args.tries.now.replay c.args.flight.now.at c.args.asked old.work.items old.settled.items new.work.items new.settled.items =
    subst (λ (k : Calls). AreSettlingStill k c.args.flight.now.at c.args.asked old.work.items old.settled.items new.work.items new.settled.items) c.loop-count.invariant.0
    c.in_ok-try_entry.ensures.settling in
    λ messages first common held are settling. still messages first common held are (c.loop-count.invariant.3 messages first common held are settling)

followed_now : (c : In_ok-try_entry)
    → FollowsCounts c.args.tries.now.replay c.args.flight.now.at c.args.origin.now.copy c.args.pending.asked (c.loop-count.count + 1) c.try_entry.new.self.work.items c.try_entry.new.self.settled.items
followed_now c =
    let old = c.loop-count.self in
    let new = c.try_entry.new.self in
    let count = c.loop-count.count in
    let e : Entry = record { at = c.args.pending.asked; wrote = Some count } in
    let follows : FollowsEntry c.args.tries.now.replay c.args.flight.now.at c.args.origin.now.copy e new.work.items new.settled.items =
    subst (λ (k : Calls). FollowsEntry k c.args.flight.now.at c.args.origin.now.copy e new.work.items new.settled.items) c.loop-count.invariant.0
    (subst (λ (o : Origin). FollowsEntry c.loop-count.tries.replay c.args.flight.now.at o.copy e new.work.items new.settled.items) c.loop-count.invariant.1 c.in_ok-try_entry.ensures.followed) in
    counts_more c.args.tries.now.replay c.args.flight.now.at c.args.origin.now.copy old.work.items old.settled.items new.work.items new.settled.items c.in_ok-try_entry.ensures.grown c.args.pending.asked count
    c.loop-count.invariant.4 follows

pub returns-in_err-try_entry-clause-budget : goal.returns-in_err-try_entry-clause-budget
returns-in_err-try_entry-clause-budget c = c.try_entry.ensures.budget ∙ c.loop-count.invariant.5

pub returns-in_err-try_entry-clause-same : goal.returns-in_err-try_entry-clause-same
returns-in_err-try_entry-clause-same c = c.try_entry.ensures.same ∙ c.loop-count.invariant.0

pub loop-count-preserved : goal.loop-count-preserved
loop-count-preserved c =
    let at = (goal.at.loop-count-preserved c).In_ok-try_entry in (
      c.try_entry.ensures.same ∙ c.loop-count.invariant.0,
      c.in_ok-try_entry.ensures.origin ∙ c.loop-count.invariant.1,
      grown_now at,
      settling_now at,
      followed_now at,
      c.try_entry.ensures.budget ∙ c.loop-count.invariant.5,
    )

pub returns-in_ok-try_entry-clause-grown : goal.returns-in_ok-try_entry-clause-grown
returns-in_ok-try_entry-clause-grown c = grown_now (goal.at.returns-in_ok-try_entry-clause-grown c).In_ok-try_entry

pub returns-in_ok-try_entry-clause-settling : goal.returns-in_ok-try_entry-clause-settling
returns-in_ok-try_entry-clause-settling c = settling_now (goal.at.returns-in_ok-try_entry-clause-settling c).In_ok-try_entry

pub returns-in_ok-try_entry-clause-followed : goal.returns-in_ok-try_entry-clause-followed
returns-in_ok-try_entry-clause-followed c = λ messages count new are within steps.
    let less : count < c.loop-count.count + 1 = omega (arith, within) in
    followed_now (goal.at.returns-in_ok-try_entry-clause-followed c).In_ok-try_entry messages count new are less steps

pub returns-in_ok-try_entry-clause-origin : goal.returns-in_ok-try_entry-clause-origin
returns-in_ok-try_entry-clause-origin c = c.in_ok-try_entry.ensures.origin ∙ c.loop-count.invariant.1

pub returns-in_ok-try_entry-clause-budget : goal.returns-in_ok-try_entry-clause-budget
returns-in_ok-try_entry-clause-budget c = c.try_entry.ensures.budget ∙ c.loop-count.invariant.5

pub returns-in_ok-try_entry-clause-same : goal.returns-in_ok-try_entry-clause-same
returns-in_ok-try_entry-clause-same c = c.try_entry.ensures.same ∙ c.loop-count.invariant.0
