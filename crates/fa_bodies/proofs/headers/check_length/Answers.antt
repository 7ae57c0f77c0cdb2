use Rattle.std.proofs.Common.{◌≡◌, [], ◌++◌, length, refl, inl, inr, arith}
use Rattle.fa_bodies.specs.Fields.{le32}
use Rattle.fa_bodies.proofs.RequestLaws.{len_right}
use Rattle.fa_bodies.proofs.headers.check_length.Goals as goal

pub returns-then-len-bytes-clause-fault : goal.returns-then-len-bytes-clause-fault
returns-then-len-bytes-clause-fault c =
    inr (
      omega arith,
      inl (
        (λ right.
            let same = len_right c.args.bytes.now c.u32_at-len.result.0 [] c.u32_at-len.result.1.now right (omega arith, c.u32_at-len.result.1.now, c.u32_at-len.ensures.value, refl) in
            absurd (omega (arith, same))),
        refl,
      ),
    )

pub returns-clause-ok : goal.returns-clause-ok
returns-clause-ok c =
    let spelled : c.args.bytes.now ≡ le32 (length c.args.bytes.now) ++ c.u32_at-len.result.1.now = rw (← c.if-len-bytes.false) c.u32_at-len.ensures.value in
    (omega arith, ((c.u32_at-len.result.1.now, (omega arith, c.u32_at-len.result.1.now, spelled, refl)), tt))
