use Rattle.fa_check.proofs.EndLemmas.{IsNoneLeft}
use Rattle.fa_check.proofs.placing.Placing.least_left.Given as goal

abbrev pub invariant-loop-place : goal.invariant-loop-place
invariant-loop-place l = IsNoneLeft l.calls.list l.self.marks.items l.place
