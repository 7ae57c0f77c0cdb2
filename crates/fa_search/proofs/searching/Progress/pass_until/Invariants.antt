use Rattle.std.proofs.Common.{◌≡◌, ◌-◌, ◌<◌, ◌≤◌, List, length}
use Rattle.fa_capture.specs.Message.{Message}
use Rattle.fa_check.specs.Verdicts.{AreMessagesOf}
use Rattle.fa_search.specs.parts.Flight.{IsFlight}
use Rattle.fa_search.specs.parts.Settling.{IsSearching}
use Rattle.fa_tree.specs.State.{TreeState}
use Rattle.fa_search.proofs.searching.Progress.pass_until.Given as goal

abbrev pub invariant-loop-self : goal.invariant-loop-self
invariant-loop-self g l = record {
  along : l.self.tries.replay ≡ l.fn.self.tries.replay;
  budget : l.self.tries.spending.budget ≡ l.fn.self.tries.spending.budget;
  behind : l.self.flight.at ≤ l.until;
  flight : IsFlight l.fn.self.tries.replay.list l.self.flight;
  some : 0 < length l.self.held.items;
  searching : (c : List Message) (first : TreeState) → AreMessagesOf l.fn.self.tries.replay c → IsSearching c first l.fn.self → IsSearching c first l.self;
}

abbrev pub decreases-loop-self : goal.decreases-loop-self
decreases-loop-self g l = l.until - l.self.flight.at
