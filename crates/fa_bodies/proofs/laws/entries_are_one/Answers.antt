use Rattle.fa_bodies.proofs.ListingLaws.{holds-one}
use Rattle.fa_bodies.proofs.laws.entries_are_one.Goals as goal

pub returns : goal.returns
returns c = holds-one
