use Rattle.std.proofs.Common.{◌≡◌, take, ap, ◌∙◌, arith}
use Rattle.byteorder.specs.Endian.{little_number}
use Rattle.fa_bodies.proofs.FieldLaws.{u64_parts}
use Rattle.fa_bodies.proofs.fields.u64_at.Goals as goal

pub returns-clause-value : goal.returns-clause-value
returns-clause-value c =
    let value : c.read_u64.result ≡ little_number 8 (take 8 c.args.bytes.now) = c.read_u64.ensures ∙ ap (little_number 8) c.split_at.ensures.front in
    rw c.split_at.ensures.back (u64_parts c.args.bytes.now c.read_u64.result (λ i. omega (arith, c.type_inv.bytes i)) c.requires value)
