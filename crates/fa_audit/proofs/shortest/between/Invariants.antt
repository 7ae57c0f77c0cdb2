use Rattle.std.proofs.Common.{◌-◌, ◌<◌, ◌≤◌, take}
use Rattle.fa_check.specs.Runs.{HasOrder}
use Rattle.fa_search.specs.Searches.{HasNoOrder}
use Rattle.fa_audit.specs.parts.Protocol.{messages_of}
use Rattle.fa_audit.proofs.shortest.between.Given as goal

abbrev pub invariant-loop-unordered : goal.invariant-loop-unordered
invariant-loop-unordered g l = record {
  apart : l.ordered < l.unordered;
  within : l.unordered ≤ l.capture.messages;
  step : 0 < l.step;
  order : HasOrder (take l.ordered (messages_of l.capture)) l.first;
  none : HasNoOrder (take l.unordered (messages_of l.capture)) l.first;
}

abbrev pub decreases-loop-unordered : goal.decreases-loop-unordered
decreases-loop-unordered g l = l.unordered - l.ordered
