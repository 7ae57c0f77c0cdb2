use Rattle.std.proofs.Common.{◌∙◌}
use Rattle.fa_search.proofs.BetweenLemmas.{found_answered, none_answered}
use Rattle.fa_search.proofs.flight.InFlight.answered.Goals as goal

pub returns-clause-some : goal.returns-clause-some
returns-clause-some c = found_answered c.args.self.now c.copied.result (c.copied.ensures ∙ c.get.ensures.value)

pub returns-clause-none : goal.returns-clause-none
returns-clause-none c = λ gone messages calls is flight. none_answered messages calls.list is.are c.args.self.now flight c.copied.result (c.copied.ensures ∙ c.get.ensures.value) gone
