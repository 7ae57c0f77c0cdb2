use Rattle.fa_bodies.proofs.OptionLaws.{if_none}
use Rattle.fa_bodies.proofs.BodyLaws.{no_forget}
use Rattle.fa_bodies.proofs.bodies.forget.Goals as goal

pub returns-in_err-nlookup-clause-none : goal.returns-in_err-nlookup-clause-none
returns-in_err-nlookup-clause-none c =
    if_none c.from_residual.result _ (no_forget c.args.body.now (λ nlookup p. c.in_err-nlookup.ensures.none (record { nlookup = nlookup }) p.1))
