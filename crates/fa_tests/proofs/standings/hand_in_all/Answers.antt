use Rattle.std.proofs.Common.{◌<◌, subst}
use Rattle.fa_capture.specs.declared.limits.TheConstants.{MAX_MESSAGES}
use Rattle.fa_tests.proofs.standings.hand_in_all.Goals as goal

pub hand_in-requires : goal.hand_in-requires
hand_in-requires c =
    let is = c.loop-place.invariant in
    (is.0, is.1, is.2, subst (λ n. n < MAX_MESSAGES) is.3 c.if-place-ge-MAX_MESSAGES.false)
