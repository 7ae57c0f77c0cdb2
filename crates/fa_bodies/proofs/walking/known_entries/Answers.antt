use Rattle.std.proofs.Common.{arith}
use Rattle.fa_bodies.proofs.WholeLaws.{whole-known}
use Rattle.fa_bodies.proofs.walking.known_entries.Goals as goal

pub returns : goal.returns
returns c = whole-known c.args.plus c.args.bytes.now (λ i. omega (arith, c.type_inv.bytes i)) c.requires
