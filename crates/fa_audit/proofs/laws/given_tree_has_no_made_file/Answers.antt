use Rattle.fa_audit.proofs.GivenLemmas.{given_tree_has_no_made_file}
use Rattle.fa_audit.proofs.laws.given_tree_has_no_made_file.Goals as goal

pub returns : goal.returns
returns c = given_tree_has_no_made_file
