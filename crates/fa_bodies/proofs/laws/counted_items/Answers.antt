use Rattle.fa_bodies.proofs.ItemLaws.{counted-items}
use Rattle.fa_bodies.proofs.laws.counted_items.Goals as goal

pub returns : goal.returns
returns c = counted-items
