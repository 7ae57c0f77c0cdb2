use Rattle.std.proofs.Common.{refl}
use Rattle.std.proofs.Math.Logic.{∥∥₁_elim}
use Rattle.fa_check.specs.Verdicts.{AreMessagesOf}
use Rattle.fa_search.proofs.searching.legal.Goals as goal

pub unreachable-requires : goal.unreachable-requires
unreachable-requires c =
    let calls = c.args.calls.now in
    let never = rw c.in-None.is at c.in_ok-found.ensures.none in
    ∥∥₁_elim calls.good (λ x y. absurd x) (λ some.
    let are : AreMessagesOf calls some.0 = record { good = some.1; counted = some.2; are = some.3 } in
    never refl some.0 are (c.requires some.0 are))
