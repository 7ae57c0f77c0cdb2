use Rattle.std.proofs.Common.{[], arith}
use Rattle.fa_bodies.specs.Structs.{setattr_in}
use Rattle.fa_bodies.proofs.FieldLaws.{length-fields}
use Rattle.fa_bodies.proofs.ViewLaws.{setattr_whole}
use Rattle.fa_bodies.proofs.views.SetattrBytes.whole.Goals as goal

pub returns-then-bytes-ne-LEN-clause-none : goal.returns-then-bytes-ne-LEN-clause-none
returns-then-bytes-ne-LEN-clause-none c x p = absurd (c.if-bytes-ne-LEN.true (omega (arith, length-fields (setattr_in x) c.args.bytes.now [] p)))

pub returns-clause-found : goal.returns-clause-found
returns-clause-found c = setattr_whole c.args.bytes.now (λ i. omega (arith, c.type_inv.bytes i)) (omega (arith, c.if-bytes-ne-LEN.false))
