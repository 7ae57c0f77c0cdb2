use Rattle.fa_bodies.proofs.OptionLaws.{if_none}
use Rattle.fa_bodies.proofs.BodyLaws.{no_mkdir}
use Rattle.fa_bodies.proofs.bodies.mkdir.Goals as goal

pub returns-in_err-mode-clause-none : goal.returns-in_err-mode-clause-none
returns-in_err-mode-clause-none c =
    if_none c.from_residual.result _ (no_mkdir c.args.body.now (λ mode umask name p. c.in_err-mode.ensures.none (record { mode = mode; umask = umask }) name p.1))
