use Rattle.fa_audit.proofs.TimeLemmas.{migrated_has_the_same_answers}
use Rattle.fa_audit.proofs.laws.migrated_has_the_same_answers.Goals as goal

pub returns : goal.returns
returns c = migrated_has_the_same_answers
