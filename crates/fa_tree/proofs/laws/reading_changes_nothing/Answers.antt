use Rattle.fa_tree.proofs.ChangeLemmas.{reading_changes_nothing}
use Rattle.fa_tree.proofs.laws.reading_changes_nothing.Goals as goal

pub returns : goal.returns
returns c = reading_changes_nothing
