use Rattle.fa_tests.specs.Tried.{ShowsAtMost}
use Rattle.fa_tests.proofs.tried.Tried.tell_each.Given as goal

abbrev pub invariant-loop-packet : goal.invariant-loop-packet
invariant-loop-packet l = ShowsAtMost l.self.taken l.self.session
