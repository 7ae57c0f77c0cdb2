use Rattle.std.proofs.Common.{◌≡◌}
use Rattle.std.specs.Map.{values_of}
use Rattle.fa_search.specs.parts.Settling.{AreGrown, AreSettlingStill}
use Rattle.fa_search.proofs.TakenLemmas.{AreInFlight, AreTriedOrLeft}
use Rattle.fa_search.proofs.settling.Settling.try_each.Given as goal

abbrev pub invariant-loop-pending : goal.invariant-loop-pending
invariant-loop-pending l =
    (l.tries.replay ≡ l.fn.tries.replay) × (l.origin ≡ l.fn.origin) × AreGrown l.fn.self.work.items l.fn.self.settled.items l.self.work.items l.self.settled.items
    × AreSettlingStill l.fn.tries.replay l.fn.flight.at l.fn.asked l.fn.self.work.items l.fn.self.settled.items l.self.work.items l.self.settled.items
    × AreInFlight l.fn.tries.replay.list l.fn.flight.at l.pending-iterator
    × AreTriedOrLeft l.fn.tries.replay l.fn.flight.at l.fn.origin.copy (values_of l.fn.flight.requests.entries) l.pending-iterator l.self.work.items l.self.settled.items
    × (l.tries.spending.budget ≡ l.fn.tries.spending.budget)
