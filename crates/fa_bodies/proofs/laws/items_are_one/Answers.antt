use Rattle.fa_bodies.proofs.ItemLaws.{items-one}
use Rattle.fa_bodies.proofs.laws.items_are_one.Goals as goal

pub returns : goal.returns
returns c = items-one
