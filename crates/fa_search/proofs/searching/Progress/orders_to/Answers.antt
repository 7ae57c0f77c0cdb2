use Rattle.std.proofs.Common.{◌≡◌, ℕ, subst, rules, tests}
use Rattle.std.proofs.lemmas.Option.{IfSome_then}
use Rattle.std.proofs.lemmas.Result.{IfOk-weaker}
use Rattle.fa_search.specs.parts.Flight.{CoversFrom}
use Rattle.fa_search.specs.parts.Settling.{AreLeft}
use Rattle.fa_search.proofs.searching.Progress.orders_to.Goals as goal

pub returns-then-stop-at-clause-comes : goal.returns-then-stop-at-clause-comes
returns-then-stop-at-clause-comes g c =
    let now = c.pass_until.new.self in
    let here : c.in-Some-Stop.stop ≡ c.args.at = search (rules, tests) in
    let ended = rw c.in-Some-Stop.is at c.in_ok-stop.ensures.ended in
    let early = rw c.in-Some-Stop.field-0-is at ended in
    IfOk-weaker c.orders_left.result _ _
    (λ found is. IfSome_then found is
    (λ those told m first are searching.
    told m first (subst (λ (k : ℕ). AreLeft m first now.common.items k now.held.items) here (early m first are searching).2)
    (subst (λ (k : ℕ). CoversFrom m k now.flight.last_uses) here (early m first are searching).3)))
    c.orders_left.ensures.comes
