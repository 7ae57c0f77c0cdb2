use Rattle.fa_check.proofs.CuttingLemmas.{IsEndSoFar}
use Rattle.fa_check.proofs.cutting.end_of_front.Given as goal

abbrev pub invariant-loop-place : goal.invariant-loop-place
invariant-loop-place l = IsEndSoFar l.calls l.messages l.order l.place l.end
