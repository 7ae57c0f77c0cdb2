use Rattle.std.proofs.Common.{◌≡◌, ◌<◌, ◌-◌, [], take, length, ap, ◌∙◌, arith}
use Rattle.fa_store.specs.parts.PageParts.{far_page}
use Rattle.fa_store.proofs.PageLemmas.{popped_same}
use Rattle.fa_store.proofs.many_pages.shorten.Goals as goal

pub loop-near-preserved : goal.loop-near-preserved
loop-near-preserved c k at =
    let near = c.loop-near.near.items in
    let some : 0 < length near = omega arith in
    let free : far_page c.args.far.now (length near - 1) ≡ [] = c.free_before-free.ensures (length near - 1) (omega arith) in
    let fewer : c.truncate.new.self.items ≡ take (length near - 1) near = c.truncate.ensures.items ∙ ap (λ n. take n near) (omega arith) in
    rw fewer (popped_same near c.args.far.now some (c.is_last_empty.ensures c.if-is_last_empty.true) free k at ∙ c.loop-near.invariant k at)
