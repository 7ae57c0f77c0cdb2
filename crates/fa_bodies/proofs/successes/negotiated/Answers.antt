use Rattle.fa_bodies.proofs.OptionLaws.{if_none}
use Rattle.fa_bodies.proofs.successes.negotiated.Goals as goal

pub returns-in_err-negotiated_body-clause-none : goal.returns-in_err-negotiated_body-clause-none
returns-in_err-negotiated_body-clause-none c = if_none c.from_residual.result _ (λ reply p. c.in_err-negotiated_body.ensures.none p.0 p.2)
