use Rattle.fa_tests.specs.Level.{ShowSome}
use Rattle.fa_tests.proofs.standings.hand_in_all.Given as goal

abbrev pub invariant-loop-place : goal.invariant-loop-place
invariant-loop-place l = ShowSome l.place l.session l.standing
