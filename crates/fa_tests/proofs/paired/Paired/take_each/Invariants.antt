use Rattle.fa_tests.specs.Paired.{AreLevel}
use Rattle.fa_tests.proofs.paired.Paired.take_each.Given as goal

abbrev pub invariant-loop-packet : goal.invariant-loop-packet
invariant-loop-packet l = AreLevel l.self.taken l.self.ledger l.self.session l.self.spare
