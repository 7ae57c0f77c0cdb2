use Rattle.std.proofs.Common.{arith}
use Rattle.fa_bodies.proofs.FieldLaws.{length-fields}
use Rattle.fa_bodies.proofs.block.front.Goals as goal

pub returns-then-bytes-LEN-clause-none : goal.returns-then-bytes-LEN-clause-none
returns-then-bytes-LEN-clause-none g c block rest p =
    absurd (omega (arith, length-fields (g.B.Block.fields block) c.args.bytes.now rest p, g.met.B.Block.sized block))
