use Rattle.std.proofs.Common.{sym, subst}
use Rattle.std.proofs.lemmas.Option.{IfSome_then}
use Rattle.std.proofs.lemmas.Result.{IfOk-weaker}
use Rattle.fa_ledger.specs.declared.calls.Calls.{Calls}
use Rattle.fa_check.specs.Verdicts.{AreMessagesOf}
use Rattle.fa_search.proofs.ThereLemmas.{some_by}
use Rattle.fa_search.proofs.coming.orders_to.Goals as goal

pub returns-clause-some : goal.returns-clause-some
returns-clause-some g c =
    let progress = c.in_ok-progress in
    IfOk-weaker c.orders_to-found.result _ _
    (λ found is. IfSome_then found is
    (λ those told. some_by c.args.calls.now those.trees
    (λ m are. (told m c.args.tree (subst (λ (calls : Calls). AreMessagesOf calls m) (sym progress.ensures.along) are) (progress.ensures.searching m are)).some)))
    c.orders_to-found.ensures.comes
