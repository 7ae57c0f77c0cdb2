use Rattle.fa_bodies.proofs.ListingLaws.{whole-entries}
use Rattle.fa_bodies.proofs.laws.whole_entries.Goals as goal

pub returns : goal.returns
returns c = whole-entries
