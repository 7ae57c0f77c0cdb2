use Rattle.std.proofs.Common.{[], ◌∷◌, ◌++◌, arith}
use Rattle.std.proofs.lemmas.List.{length-append}
use Rattle.fa_capture.specs.Message.{message}
use Rattle.fa_explain.proofs.misplaced.late_answer_in.Goals as goal

pub accept-requires : goal.accept-requires
accept-requires c =
    let (before, shows, few) = c.loop-taken.invariant in
    omega (arith, shows.counted, few, c.loop-taken-test.true)

pub loop-taken-preserved : goal.loop-taken-preserved
loop-taken-preserved c =
    let (before, shows, few) = c.loop-taken.invariant in
    let next = message c.in-Some.packet ∷ [] in
    (before ++ next, c.in-Ok.ensures.shows before shows, omega (arith, few, length-append before next))
