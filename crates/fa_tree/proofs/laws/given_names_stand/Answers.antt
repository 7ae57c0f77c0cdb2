use Rattle.fa_tree.proofs.NamedLemmas.{given_names_stand}
use Rattle.fa_tree.proofs.laws.given_names_stand.Goals as goal

pub returns : goal.returns
returns c = given_names_stand
