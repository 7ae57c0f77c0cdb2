use Rattle.fa_check.proofs.UnknownLemmas.{never_unknown_here}
use Rattle.fa_check.proofs.laws.never_unknown_here.Goals as goal

pub returns : goal.returns
returns c = never_unknown_here
