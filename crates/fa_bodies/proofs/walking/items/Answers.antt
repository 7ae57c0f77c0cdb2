use Rattle.std.proofs.Common.{arith}
use Rattle.fa_bodies.specs.Items.{items_in}
use Rattle.fa_bodies.proofs.ItemLaws.{holds-items_in, length-items}
use Rattle.fa_bodies.proofs.walking.items.Goals as goal

pub returns-clause-held : goal.returns-clause-held
returns-clause-held c = holds-items_in c.args.bytes.now (λ i. omega (arith, c.type_inv.bytes i))

pub returns-clause-few : goal.returns-clause-few
returns-clause-few c =
    let held = holds-items_in c.args.bytes.now (λ i. omega (arith, c.type_inv.bytes i)) in
    omega (arith, length-items (items_in c.args.bytes.now) c.args.bytes.now held.0 held.1)
