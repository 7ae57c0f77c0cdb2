use Rattle.fa_audit.proofs.StoredLemmas.{IsFedSoFar}
use Rattle.fa_audit.proofs.running.stored_capture.Given as goal

abbrev pub invariant-loop : goal.invariant-loop
invariant-loop g l =
    let input = g.R.Input in
    IsFedSoFar (input.remaining l.fn.input) (input.remaining l.input) l.feed (input.has_failed l.input) (input.was_interrupted l.input) l.counter
