use Rattle.std.proofs.Common.{◌≡◌, List}
use Rattle.fa_capture.specs.Message.{Message}
use Rattle.fa_check.specs.Verdicts.{AreMessagesOf}
use Rattle.fa_search.specs.parts.Settling.{IsFurther}
use Rattle.fa_search.proofs.TakenLemmas.{AreInFlight}
use Rattle.fa_search.proofs.settling.place_keeping.Given as goal

abbrev pub invariant-loop-pending : goal.invariant-loop-pending
invariant-loop-pending l =
    (l.tries.replay ≡ l.fn.tries.replay) × AreInFlight l.fn.tries.replay.list l.fn.flight.at l.pending-iterator
    × ((c : List Message) → AreMessagesOf l.fn.tries.replay c → IsFurther c l.fn.flight.at l.fn.one l.one)
    × (l.tries.spending.budget ≡ l.fn.tries.spending.budget)
