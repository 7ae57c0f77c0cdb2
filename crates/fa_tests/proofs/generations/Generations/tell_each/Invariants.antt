use Rattle.fa_tests.specs.Tried.{ShowsAtMost}
use Rattle.fa_tests.proofs.generations.Generations.tell_each.Given as goal

abbrev pub invariant-loop-packet : goal.invariant-loop-packet
invariant-loop-packet l = ShowsAtMost l.self.taken l.self.parked
