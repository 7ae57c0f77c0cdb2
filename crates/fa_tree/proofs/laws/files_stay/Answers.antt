use Rattle.fa_tree.proofs.ShapeLemmas.{files_stay}
use Rattle.fa_tree.proofs.laws.files_stay.Goals as goal

pub returns : goal.returns
returns c = files_stay
