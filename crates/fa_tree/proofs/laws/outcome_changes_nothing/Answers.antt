use Rattle.fa_tree.proofs.ChangeLemmas.{outcome_changes_nothing}
use Rattle.fa_tree.proofs.laws.outcome_changes_nothing.Goals as goal

pub returns : goal.returns
returns c = outcome_changes_nothing
