use Rattle.fa_bodies.proofs.OptionLaws.{if_none}
use Rattle.fa_bodies.proofs.BodyLaws.{no_init}
use Rattle.fa_bodies.proofs.bodies.init.Goals as goal

pub returns-in_err-init-clause-none : goal.returns-in_err-init-clause-none
returns-in_err-init-clause-none c =
    if_none c.from_residual.result _ (no_init c.args.body.now (λ i p. c.in_err-init.ensures.none i p.1 p.2))
