use Rattle.std.specs.Prelude.{◌≡◌, ◌+◌}
use Rattle.std.specs.Iterator.Adapters.{take_count, take_source}
use Rattle.fa_capture.specs.Captures.{records_left}
use Rattle.fa_audit.proofs.ProtocolLemmas.{IsGoodSoFar}
use Rattle.fa_audit.proofs.protocol.calls_of_front.Given as goal

abbrev pub invariant-loop-packet : goal.invariant-loop-packet
invariant-loop-packet l =
    (goal.iterator-loop-packet).can_next l.packet-iterator
    × (goal.iterator-loop-packet).is_finite l.packet-iterator
    × (l.at + take_count l.packet-iterator ≡ l.fn.messages)
    × IsGoodSoFar l.capture (records_left (take_source l.packet-iterator)) l.at l.session l.ledger
