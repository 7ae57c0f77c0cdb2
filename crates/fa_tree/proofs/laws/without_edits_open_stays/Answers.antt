use Rattle.fa_tree.proofs.NamedLemmas.{without_edits_open_stays}
use Rattle.fa_tree.proofs.laws.without_edits_open_stays.Goals as goal

pub returns : goal.returns
returns c = without_edits_open_stays
