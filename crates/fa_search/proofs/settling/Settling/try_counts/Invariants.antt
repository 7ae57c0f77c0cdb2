use Rattle.std.proofs.Common.{◌≡◌}
use Rattle.fa_search.specs.parts.Settling.{AreGrown, AreSettlingStill}
use Rattle.fa_search.proofs.TakenLemmas.{FollowsCounts}
use Rattle.fa_search.proofs.settling.Settling.try_counts.Given as goal

abbrev pub invariant-loop-count : goal.invariant-loop-count
invariant-loop-count l =
    (l.tries.replay ≡ l.fn.tries.replay) × (l.origin ≡ l.fn.origin) × AreGrown l.fn.self.work.items l.fn.self.settled.items l.self.work.items l.self.settled.items
    × AreSettlingStill l.fn.tries.replay l.fn.flight.at l.fn.asked l.fn.self.work.items l.fn.self.settled.items l.self.work.items l.self.settled.items
    × FollowsCounts l.fn.tries.replay l.fn.flight.at l.fn.origin.copy l.fn.pending.asked l.count l.self.work.items l.self.settled.items
    × (l.tries.spending.budget ≡ l.fn.tries.spending.budget)
