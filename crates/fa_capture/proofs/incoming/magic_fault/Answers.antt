use Rattle.std.proofs.Common.{refl}
use Rattle.fa_capture.proofs.incoming.magic_fault.Goals as goal

pub returns-clause-decided : goal.returns-clause-decided
returns-clause-decided c = (refl, c.begins_magic.ensures.other c.if-begins_magic.false)
