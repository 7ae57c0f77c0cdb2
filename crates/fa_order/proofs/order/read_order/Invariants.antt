use Rattle.std.proofs.Common.{length}
use Rattle.fa_order.proofs.OrderLemmas.{IsSoFar}
use Rattle.fa_order.proofs.order.read_order.Given as goal

abbrev pub invariant-loop-entry : goal.invariant-loop-entry
invariant-loop-entry l = IsSoFar l.bytes l.entries.items l.left

abbrev pub decreases-loop-entry : goal.decreases-loop-entry
decreases-loop-entry l = length l.left
