use Rattle.fa_tree.proofs.ShapeLemmas.{only_its_own_is_made}
use Rattle.fa_tree.proofs.laws.only_its_own_is_made.Goals as goal

pub returns : goal.returns
returns c = only_its_own_is_made
