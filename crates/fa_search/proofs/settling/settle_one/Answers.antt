use Rattle.std.proofs.Common.{◌≡◌, ◌++◌, ◌∷◌, [], refl, subst}
use Rattle.fa_check.proofs.CallerLemmas.{no_step_failure}
use Rattle.fa_search.specs.parts.Configurations.{PlainConfiguration}
use Rattle.fa_search.specs.parts.Settling.IsTakenIn.{GetsPlaced, StaysLeft}
use Rattle.fa_search.proofs.LoopLemmas.{not_true}
use Rattle.fa_search.proofs.settling.settle_one.Goals as goal

pub returns-in_ok-push-in-Ok-clause-taken : goal.returns-in_ok-push-in-Ok-clause-taken
returns-in_ok-push-in-Ok-clause-taken c = λ m are.
    GetsPlaced c.place.new.self (λ has. not_true c.has.result c.if-has.false (c.has.ensures.1 has)) (c.in-Ok.ensures.placed m are) refl c.in_ok-push-in-Ok.ensures

pub returns-in_ok-push-in-Err-Refused-clause-taken : goal.returns-in_ok-push-in-Err-Refused-clause-taken
returns-in_ok-push-in-Err-Refused-clause-taken c = λ m are.
    let refused = rw c.in-Err-Refused.field-0-is at c.in-Err-Refused.ensures.refused in
    StaysLeft (λ has. not_true c.has.result c.if-has.false (c.has.ensures.1 has))
    (λ new steps. no_step_failure m c.args.one.tree new _ c.in-Err-Refused.field-0-0 steps (refused.1 m are))
    (subst (λ (y : PlainConfiguration). c.push-in-Err-Refused.new.list.items ≡ c.args.settling.now.work.items ++ y ∷ []) refused.0 c.in_ok-push-in-Err-Refused.ensures)
    refl
