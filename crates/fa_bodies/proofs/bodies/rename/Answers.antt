use Rattle.fa_bodies.proofs.OptionLaws.{if_none}
use Rattle.fa_bodies.proofs.BodyLaws.{no_rename}
use Rattle.fa_bodies.proofs.bodies.rename.Goals as goal

pub returns-in_err-newdir-clause-none : goal.returns-in_err-newdir-clause-none
returns-in_err-newdir-clause-none c =
    if_none c.from_residual.result _ (no_rename c.args.body.now (λ newdir old_name new_name p.
    c.in_err-newdir.ensures.none (record { newdir = newdir }) old_name new_name p.1))
