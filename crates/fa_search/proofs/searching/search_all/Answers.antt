use Rattle.std.proofs.Common.{sym, subst, arith}
use Rattle.std.proofs.lemmas.Result.{IfOk-weaker}
use Rattle.fa_ledger.specs.declared.calls.Calls.{Calls}
use Rattle.fa_check.specs.Verdicts.{AreMessagesOf}
use Rattle.fa_search.specs.Searches.{IsEndless}
use Rattle.fa_search.specs.parts.Flight.{IsFlight}
use Rattle.fa_search.proofs.searching.search_all.Goals as goal

pub run-ended-requires : goal.run-ended-requires
run-ended-requires g c = record {
  within = (let first = c.in_ok-progress.ensures.first in omega (arith, first));
  flight = subst (λ (calls : Calls). IsFlight calls.list c.in_ok-progress.progress.flight) (sym c.in_ok-progress.ensures.along) c.in_ok-progress.ensures.flight;
  some = c.in_ok-progress.ensures.some;
}

pub returns : goal.returns
returns g c = record {
  found = IfOk-weaker c.run-ended.result _ _
      (λ ended is m are. is m c.args.tree (subst (λ (calls : Calls). AreMessagesOf calls m) (sym c.in_ok-progress.ensures.along) are) (c.in_ok-progress.ensures.searching m are))
      c.run-ended.ensures.found;
  none = λ m at code are same.
      c.run-ended.ensures.stop m c.args.tree at code (subst (λ (calls : Calls). AreMessagesOf calls m) (sym c.in_ok-progress.ensures.along) are)
      (c.in_ok-progress.ensures.searching m are) same;
  gave_up = λ m at are same.
      c.run-ended.ensures.gave_up m c.args.tree at (subst (λ (calls : Calls). AreMessagesOf calls m) (sym c.in_ok-progress.ensures.along) are)
      (c.in_ok-progress.ensures.searching m are) same;
  decides = λ at endless same. c.run-ended.ensures.endless at (subst IsEndless (sym c.in_ok-progress.ensures.budget) endless) same;
}
