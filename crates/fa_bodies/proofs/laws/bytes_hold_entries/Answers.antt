use Rattle.fa_bodies.specs.Listing.{entries_in}
use Rattle.fa_bodies.proofs.ItemLaws.{each-IsBytes}
use Rattle.fa_bodies.proofs.ListingLaws.{holds-entries_in}
use Rattle.fa_bodies.proofs.laws.bytes_hold_entries.Goals as goal

pub returns : goal.returns
returns c plus bytes each = (entries_in plus bytes, holds-entries_in plus bytes (each-IsBytes bytes each))
