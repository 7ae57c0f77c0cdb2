use Rattle.fa_tree.proofs.NamedLemmas.{each_open_by_itself}
use Rattle.fa_tree.proofs.laws.each_open_by_itself.Goals as goal

pub returns : goal.returns
returns c = each_open_by_itself
