use Rattle.std.proofs.Common.{arith}
use Rattle.fa_audit.proofs.ShortestLemmas.{shortest_is}
use Rattle.fa_audit.proofs.shortest.between.Goals as goal

pub returns : goal.returns
returns g c =
    let so_far = c.loop-unordered.invariant in
    shortest_is c.args.capture.now c.args.first.now c.loop-unordered.ordered c.loop-unordered.unordered (omega (arith, c.loop-unordered-test.false, so_far.apart))
    so_far.within so_far.order so_far.none
