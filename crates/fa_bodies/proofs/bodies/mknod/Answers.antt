use Rattle.std.proofs.Common.{◌≡◌, ℕ, [], ◌∷◌, ◌++◌, true, false, refl, subst}
use Rattle.fa_bodies.specs.Fields.Field.{Name}
use Rattle.fa_bodies.specs.Modes.{mode_bits, IsNodeMode}
use Rattle.fa_bodies.specs.Structs.{mknod_in}
use Rattle.fa_bodies.proofs.FieldLaws.{fields-one}
use Rattle.fa_bodies.proofs.OptionLaws.{if_none}
use Rattle.fa_bodies.proofs.BodyLaws.{no_mknod}
use Rattle.fa_bodies.proofs.bodies.mknod.Goals as goal

pub returns-in_err-mode-clause-none : goal.returns-in_err-mode-clause-none
returns-in_err-mode-clause-none c =
    if_none c.from_residual.result _ (no_mknod c.args.body.now (λ mode rdev umask name p. c.in_err-mode.ensures.none (record { mode = mode; rdev = rdev; umask = umask }) name p.2))

pub returns-then-not-is_node-clause-none : goal.returns-then-not-is_node-clause-none
returns-then-not-is_node-clause-none c = no_mknod c.args.body.now (λ mode rdev umask name p.
    let r = c.in_ok-mode.field-0-0 in
    let spelled = mknod_in mode rdev umask ++ Name name ∷ [] in
    let read = mknod_in r.mode r.rdev r.umask ++ Name c.in_ok-mode.name.now ∷ [] in
    let one = fields-one spelled read c.args.body.now [] [] (refl, tt) p.2 c.in_ok-mode.ensures.found in
    let fields : mknod_in mode rdev umask ++ Name name ∷ [] ≡ mknod_in r.mode r.rdev r.umask ++ Name c.in_ok-mode.name.now ∷ [] = one.0 in
    let modes : mode_bits mode ≡ mode_bits r.mode = cc in
    let yes : false ≡ true = c.if-not-is_node.ensures.1 (subst (λ (m : ℕ). IsNodeMode m) modes p.1) in
    absurd cc)
