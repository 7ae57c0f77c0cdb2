use Rattle.fa_capture.proofs.PullLemmas.{IsPulled}
use Rattle.fa_capture.proofs.input.read_all.Given as goal

abbrev pub invariant-loop : goal.invariant-loop
invariant-loop g l =
    let input = g.R.Input in
    IsPulled (input.remaining l.fn.reader) (input.remaining l.reader) l.bytes.items (input.has_failed l.reader) (input.was_interrupted l.reader) l.counter l.limit
