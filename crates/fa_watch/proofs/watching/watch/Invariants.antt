use Rattle.std.proofs.Common.{◌-◌}
use Rattle.fa_watch.specs.declared.watching.TheConstants.{MAX_PULLS}
use Rattle.fa_watch.specs.parts.Watching.{IsSoFar}
use Rattle.fa_watch.proofs.watching.watch.Given as goal

abbrev pub invariant-loop-pulls : goal.invariant-loop-pulls
invariant-loop-pulls g l =
    let input = g.R.Input in
    IsSoFar (input.remaining l.fn.input) (input.remaining l.input) l.stream l.parked (input.has_failed l.input) (input.was_interrupted l.input) l.pulls

abbrev pub decreases-loop-pulls : goal.decreases-loop-pulls
decreases-loop-pulls g l = MAX_PULLS - l.pulls
