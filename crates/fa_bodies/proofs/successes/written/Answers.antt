use Rattle.std.proofs.Common.{[], arith}
use Rattle.fa_bodies.proofs.OptionLaws.{if_none}
use Rattle.fa_bodies.proofs.StructLaws.{write_out-one}
use Rattle.fa_bodies.proofs.successes.written.Goals as goal

pub returns-in_err-size-clause-none : goal.returns-in_err-size-clause-none
returns-in_err-size-clause-none c =
    if_none c.from_residual.result _ (λ reply p. c.in_err-size.ensures.none (record { size = p.0 }) p.2)

pub returns-then-size-asked-clause-none : goal.returns-then-size-asked-clause-none
returns-then-size-asked-clause-none c reply p =
    let one = write_out-one p.0 c.in_ok-size.field-0.size c.args.body.now [] [] p.2 c.in_ok-size.ensures.found in
    absurd (omega (arith, one, p.3))
