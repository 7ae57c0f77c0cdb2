use Rattle.std.proofs.Common.{arith}
use Rattle.fa_capture.proofs.FramingLemmas.{spelled_4}
use Rattle.fa_capture.proofs.walk.split_u32.Goals as goal

pub returns-clause-found : goal.returns-clause-found
returns-clause-found c =
    let parts = c.in_ok-number.ensures.cases in
    spelled_4 c.args.bytes.now c.in_ok-number.number.now c.in_ok-number.behind.now c.from_le_bytes.result (λ i. omega (arith, c.type_inv.bytes i)) parts.0 parts.1 parts.2 (omega (arith, c.from_le_bytes.ensures))
