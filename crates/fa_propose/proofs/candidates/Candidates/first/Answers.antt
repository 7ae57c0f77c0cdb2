use Rattle.fa_propose.specs.parts.Candidates.{candidates_shown}
use Rattle.fa_propose.proofs.RankOrderLemmas.{ranked_pairs}
use Rattle.fa_propose.proofs.candidates.Candidates.first.Goals as goal

pub returns-clause-ordered : goal.returns-clause-ordered
returns-clause-ordered c = rw (← c.self.view_is) (ranked_pairs (candidates_shown c.self.inside) c.self.invariant.ordered)
