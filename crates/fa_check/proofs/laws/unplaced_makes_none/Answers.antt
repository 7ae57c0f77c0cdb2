use Rattle.fa_check.proofs.MadeLemmas.{unplaced_makes_none}
use Rattle.fa_check.proofs.laws.unplaced_makes_none.Goals as goal

pub returns : goal.returns
returns c = unplaced_makes_none
