use Rattle.std.specs.Prelude.{length}
use Rattle.fa_audit.proofs.ProtocolLemmas.{HasTaken}
use Rattle.fa_audit.proofs.protocol.good_calls_of_bytes.Given as goal

abbrev pub invariant-loop-packet : goal.invariant-loop-packet
invariant-loop-packet l = HasTaken l.fn.bytes l.walk l.taken l.session l.ledger

abbrev pub decreases-loop-packet : goal.decreases-loop-packet
decreases-loop-packet l = length l.walk.left
