use Rattle.std.proofs.Common.{◌≡◌, take, ap, ◌∙◌, arith}
use Rattle.byteorder.specs.Endian.{little_number}
use Rattle.fa_bodies.proofs.FieldLaws.{u32_parts}
use Rattle.fa_bodies.proofs.fields.u32_at.Goals as goal

pub returns-clause-value : goal.returns-clause-value
returns-clause-value c =
    let value : c.read_u32.result ≡ little_number 4 (take 4 c.args.bytes.now) = c.read_u32.ensures ∙ ap (little_number 4) c.split_at.ensures.front in
    rw c.split_at.ensures.back (u32_parts c.args.bytes.now c.read_u32.result (λ i. omega (arith, c.type_inv.bytes i)) c.requires value)
