use Rattle.fa_bodies.proofs.OptionLaws.{if_none}
use Rattle.fa_bodies.proofs.BodyLaws.{no_link}
use Rattle.fa_bodies.proofs.bodies.link.Goals as goal

pub returns-in_err-oldnodeid-clause-none : goal.returns-in_err-oldnodeid-clause-none
returns-in_err-oldnodeid-clause-none c =
    if_none c.from_residual.result _ (no_link c.args.body.now (λ oldnodeid name p. c.in_err-oldnodeid.ensures.none (record { oldnodeid = oldnodeid }) name p.1))
