use Rattle.std.proofs.Common.{◌≡◌, length, refl, ap, arith}
use Rattle.fa_bodies.specs.Structs.{batch_forget_in}
use Rattle.fa_bodies.proofs.FieldLaws.{fields-one}
use Rattle.fa_bodies.proofs.OptionLaws.{if_none}
use Rattle.fa_bodies.proofs.BodyLaws.{no_batch_forget}
use Rattle.fa_bodies.proofs.bodies.batch_forget.Goals as goal

pub returns-in_err-count-clause-none : goal.returns-in_err-count-clause-none
returns-in_err-count-clause-none c =
    if_none c.from_residual.result _ (no_batch_forget c.args.body.now (λ count items p. c.in_err-count.ensures.none (record { count = count }) items p.1))

pub returns-then-items-count-clause-none : goal.returns-then-items-count-clause-none
returns-then-items-count-clause-none c =
    no_batch_forget c.args.body.now (λ count items p.
    let read = c.in_ok-count.field-0-0.count in
    let one = fields-one (batch_forget_in count) (batch_forget_in read) c.args.body.now items c.in_ok-count.items.now (refl, tt) p.1 c.in_ok-count.ensures.found in
    let fields : batch_forget_in count ≡ batch_forget_in read = one.0 in
    let counts : count ≡ read = cc in
    c.if-items-count.true (omega (arith, ap length one.1, counts, p.2)))
