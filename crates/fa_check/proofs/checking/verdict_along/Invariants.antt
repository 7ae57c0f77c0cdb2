use Rattle.std.proofs.Common.{◌≡◌, take}
use Rattle.fa_check.specs.Replays.{IsReplayed}
use Rattle.fa_check.proofs.checking.verdict_along.Given as goal

abbrev pub invariant-loop-entry : goal.invariant-loop-entry
invariant-loop-entry l = (l.replay ≡ l.calls) × IsReplayed l.calls l.fn.tree l.tree (take l.entry-index l.order) l.placing
