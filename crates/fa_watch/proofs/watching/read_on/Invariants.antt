use Rattle.std.proofs.Common.{◌-◌}
use Rattle.fa_watch.specs.declared.watching.TheConstants.{MAX_PULLS}
use Rattle.fa_watch.specs.parts.Watching.{IsSoFar}
use Rattle.fa_watch.proofs.WatchLemmas.{ReadsOn}
use Rattle.fa_watch.proofs.watching.read_on.Given as goal

abbrev pub invariant-loop-taken : goal.invariant-loop-taken
invariant-loop-taken g l =
    let input = g.R.Input in
    ReadsOn (λ first. IsSoFar first (input.remaining l.fn.input) l.fn.stream l.fn.session (input.has_failed l.fn.input) (input.was_interrupted l.fn.input) l.fn.pulls)
    (λ first. IsSoFar first (input.remaining l.input) l.stream l.session (input.has_failed l.input) (input.was_interrupted l.input) l.pulls) l.fn.pulls l.pulls l.taken l.piece

abbrev pub decreases-loop-taken : goal.decreases-loop-taken
decreases-loop-taken g l = MAX_PULLS - l.pulls
