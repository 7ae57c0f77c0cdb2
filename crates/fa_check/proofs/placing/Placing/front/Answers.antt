use Rattle.fa_check.proofs.FrontLemmas.{replayed_front}
use Rattle.fa_check.proofs.placing.Placing.front.Goals as goal

pub returns : goal.returns
returns c = λ calls first tree es so_far messages is. replayed_front calls first tree es c.args.self.now so_far messages is
