use Rattle.std.proofs.Common.{◌≡◌, length, ◌-◌}
use Rattle.fa_propose.proofs.ProposeLemmas.{IsProposing}
use Rattle.fa_propose.proofs.proposing.guess.Given as goal

abbrev pub invariant-loop-calls : goal.invariant-loop-calls
invariant-loop-calls l = (l.replay ≡ l.calls) × IsProposing l.calls l.fn.tree l.tree l.order.items l.placing l.ready.seen l.ready.candidates

abbrev pub decreases-loop-calls : goal.decreases-loop-calls
decreases-loop-calls l = length l.calls.list - length l.order.items
