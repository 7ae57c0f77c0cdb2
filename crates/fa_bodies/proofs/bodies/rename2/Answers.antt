use Rattle.std.proofs.Common.{rules, ◌≡◌, refl, inl, inr}
use Rattle.fa_bodies.specs.declared.rename_flags.RenameFlags.{RenameFlags}
use Rattle.fa_bodies.specs.Flags.{rename_bits}
use Rattle.fa_bodies.proofs.OptionLaws.{if_none}
use Rattle.fa_bodies.proofs.BodyLaws.{no_rename2}
use Rattle.fa_bodies.proofs.bodies.rename2.Goals as goal

pub returns-in_err-newdir-clause-none : goal.returns-in_err-newdir-clause-none
returns-in_err-newdir-clause-none c =
    if_none c.from_residual.result _ (no_rename2 c.args.body.now (λ newdir flags old_name new_name p.
    c.in_err-newdir.ensures.none (record { newdir = newdir; flags = flags }) old_name new_name p))

-- a RENAME2 with flags that are not judged is passed
pub returns-in-None-clause-found : goal.returns-in-None-clause-found
returns-in-None-clause-found c =
    let r = c.in_ok-newdir.field-0-0 in
    let old_name = c.in_ok-newdir.old_name.now in
    let new_name = c.in_ok-newdir.new_name.now in
    let other : (judged : RenameFlags) → rename_bits judged ≡ r.flags → ⊥ = search rules in
    inr (
      inr (inr (inl refl)),
      λ is. record { newdir = r.newdir; flags = r.flags; old_name = old_name; new_name = new_name; spelled = c.in_ok-newdir.ensures.found; other = other },
    )
