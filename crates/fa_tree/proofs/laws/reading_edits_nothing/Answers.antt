use Rattle.fa_tree.proofs.ChangeLemmas.{reading_edits_nothing}
use Rattle.fa_tree.proofs.laws.reading_edits_nothing.Goals as goal

pub returns : goal.returns
returns c = reading_edits_nothing
