use Rattle.std.proofs.Common.{arith}
use Rattle.fa_bodies.proofs.ViewLaws.{attr_read}
use Rattle.fa_bodies.proofs.attributes.attr_out_at.Goals as goal

pub returns : goal.returns
returns c = attr_read c.at.result.0 c.args.bytes.now c.at.result.1.now (λ i. omega (arith, c.type_inv.bytes i)) c.requires c.at.ensures
