use Rattle.fa_bodies.proofs.OptionLaws.{if_none}
use Rattle.fa_bodies.proofs.BodyLaws.{no_create}
use Rattle.fa_bodies.proofs.bodies.create.Goals as goal

pub returns-in_err-flags-clause-none : goal.returns-in_err-flags-clause-none
returns-in_err-flags-clause-none c =
    if_none c.from_residual.result _ (no_create c.args.body.now (λ flags mode umask name p. c.in_err-flags.ensures.none (record { flags = flags; mode = mode; umask = umask }) name p.1))
