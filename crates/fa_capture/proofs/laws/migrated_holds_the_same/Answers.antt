use Rattle.fa_capture.proofs.MigrateLemmas.{migrated_holds_the_same}
use Rattle.fa_capture.proofs.laws.migrated_holds_the_same.Goals as goal

pub returns : goal.returns
returns c = migrated_holds_the_same
