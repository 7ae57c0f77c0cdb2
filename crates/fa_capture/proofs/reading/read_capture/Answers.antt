use Rattle.std.proofs.Common.{refl}
use Rattle.fa_capture.proofs.reading.read_capture.Goals as goal

pub returns-in_default : goal.returns-in_default
returns-in_default c = c.without_magic.ensures c.args.bytes.now (c.in_default.ensures.none refl)
