use Rattle.std.proofs.Common.{arith}
use Rattle.fa_bodies.proofs.ViewLaws.{attributes_read}
use Rattle.fa_bodies.proofs.attributes.attributes_at.Goals as goal

pub returns : goal.returns
returns c = attributes_read c.at.result.0 c.args.bytes.now c.at.result.1.now (λ i. omega (arith, c.type_inv.bytes i)) c.requires c.at.ensures
