use Rattle.fa_bodies.specs.Items.{items_in}
use Rattle.fa_bodies.proofs.ItemLaws.{holds-items_in, each-IsBytes}
use Rattle.fa_bodies.proofs.laws.bytes_hold_items.Goals as goal

pub returns : goal.returns
returns c bytes each = (items_in bytes, holds-items_in bytes (each-IsBytes bytes each))
