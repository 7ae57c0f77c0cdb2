use Rattle.std.proofs.Common.{[], ◌∷◌, refl}
use Rattle.fa_bodies.specs.Fields.Field.{Name, Target}
use Rattle.fa_bodies.proofs.OptionLaws.{if_none}
use Rattle.fa_bodies.proofs.FieldLaws.{behind}
use Rattle.fa_bodies.proofs.BodyLaws.{no_symlink}
use Rattle.fa_bodies.proofs.bodies.symlink.Goals as goal

pub returns-in_err-name-clause-none : goal.returns-in_err-name-clause-none
returns-in_err-name-clause-none c =
    if_none c.from_residual.result _ (no_symlink c.args.body.now (λ name target p.
    c.in_err-name.ensures.none name p.1.1 (p.1.0, p.1.1, p.1.2, refl)))

pub returns-in_err-target-clause-none : goal.returns-in_err-target-clause-none
returns-in_err-target-clause-none c =
    if_none c.from_residual-in_err-target.result _ (no_symlink c.args.body.now (λ name target p.
    let follows = behind (Name name ∷ []) (Name c.in_ok-name.name.now ∷ []) (Target target ∷ []) c.args.body.now c.in_ok-name.rest.now [] tt c.in_ok-name.ensures.found p.1 in
    c.in_err-target.ensures.none target follows.1))
