use Rattle.fa_check.proofs.PlacingLemmas.{AreAnswersOf}
use Rattle.fa_check.proofs.unplaced_answers.answers_of.Given as goal

abbrev pub invariant-loop-place : goal.invariant-loop-place
invariant-loop-place l = AreAnswersOf l.calls.list l.calls.messages l.place l.marks.items
