use Rattle.std.proofs.Common.{◌-◌, ◌≤◌}
use Rattle.fa_capture.proofs.FrontLemmas.{IsBehind}
use Rattle.fa_capture.proofs.reading.front.Given as goal

abbrev pub invariant-loop-kept : goal.invariant-loop-kept
invariant-loop-kept l = record { within : l.kept ≤ l.messages; behind : IsBehind l.bytes l.kept l.records }

abbrev pub decreases-loop-kept : goal.decreases-loop-kept
decreases-loop-kept l = l.messages - l.kept
