use Rattle.fa_capture.proofs.PacketLemmas.{records_held}
use Rattle.fa_capture.proofs.packets.Packets.of.Goals as goal

pub invariant_of-result : goal.invariant_of-result
invariant_of-result c = record { records = records_held c.args.format c.args.bytes.now c.requires }
