use Rattle.fa_picture.proofs.MomentLemmas.{moments_one}
use Rattle.fa_picture.proofs.taking_effect.moments.Goals as goal

pub loop-entry-preserved : goal.loop-entry-preserved
loop-entry-preserved c =
    rw c.in_ok-push.ensures.items
    (moments_one c.args.order.now c.loop-entry.entry-index c.loop-entry.moments.items c.loop-entry.latest c.max-latest.result c.max-latest.ensures c.loop-entry.invariant)
