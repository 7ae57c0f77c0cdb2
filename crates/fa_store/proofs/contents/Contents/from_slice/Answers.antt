use Rattle.std.proofs.Common.{◌≤◌, length, ap, ◌∙◌, arith}
use Rattle.fa_store.specs.Contents.{written}
use Rattle.fa_store.proofs.ContentsLemmas.{zero_behind, bytes_of_one, written_rest}
use Rattle.fa_store.proofs.contents.Contents.from_slice.Goals as goal

pub invariant_of-contents : goal.invariant_of-contents
invariant_of-contents c =
    let fits : length c.split_at.result.0.now ≤ 4096 = omega (arith, c.split_at.ensures.front_len, c.min.ensures) in
    zero_behind c.in_ok-from_slice.field-0 c.split_at.result.0.now c.in_ok-from_slice.ensures fits

pub returns : goal.returns
returns c =
    let fits : length c.split_at.result.0.now ≤ 4096 = omega (arith, c.split_at.ensures.front_len, c.min.ensures) in
    c.in_ok-write.ensures.written
    ∙ (ap (λ l. written l 4096 c.split_at.result.1.now) (bytes_of_one c.in_ok-from_slice.field-0 c.split_at.result.0.now c.in_ok-from_slice.ensures fits)
    ∙ rw (c.split_at.ensures.front, c.split_at.ensures.back) (written_rest c.args.bytes.now c.min.result c.min.ensures))
