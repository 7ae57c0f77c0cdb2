use Rattle.std.proofs.Common.{◌≡◌, length, refl, ap, arith}
use Rattle.fa_bodies.specs.Structs.{write_in}
use Rattle.fa_bodies.proofs.FieldLaws.{fields-one}
use Rattle.fa_bodies.proofs.OptionLaws.{if_none}
use Rattle.fa_bodies.proofs.BodyLaws.{no_write}
use Rattle.fa_bodies.proofs.bodies.write.Goals as goal

pub returns-in_err-write-clause-none : goal.returns-in_err-write-clause-none
returns-in_err-write-clause-none c =
    if_none c.from_residual.result _ (no_write c.args.body.now (λ fh offset size write_flags lock_owner flags payload p. c.in_err-write.ensures.none (record { fh = fh; offset = offset; size = size; write_flags = write_flags; lock_owner = lock_owner; flags = flags }) payload p.1))

pub returns-then-write-payload-clause-none : goal.returns-then-write-payload-clause-none
returns-then-write-payload-clause-none c =
    no_write c.args.body.now (λ fh offset size write_flags lock_owner flags payload p.
    let r = c.in_ok-write.write in
    let one = fields-one (write_in fh offset size write_flags lock_owner flags) (write_in r.fh r.offset r.size r.write_flags r.lock_owner r.flags) c.args.body.now payload c.in_ok-write.payload.now (refl, tt) p.1 c.in_ok-write.ensures.found in
    let fields : write_in fh offset size write_flags lock_owner flags ≡ write_in r.fh r.offset r.size r.write_flags r.lock_owner r.flags = one.0 in
    let sizes : size ≡ r.size = cc in
    c.if-write-payload.true (omega (arith, ap length one.1, sizes, p.2)))
