use Rattle.std.proofs.Common.{subst}
use Rattle.std.specs.Prelude.{OnOk}
use Rattle.fa_ledger.specs.declared.calls.Calls.{Calls}
use Rattle.fa_ledger.specs.SoFar.{listing_so_far}
use Rattle.fa_tree.specs.Steps.{OfCallAt, Steps}
use Rattle.fa_tree.proofs.tree.Tree.step.Goals as goal

pub returns-clause-steps : goal.returns-clause-steps
returns-clause-steps c =
    subst (λ (calls : Calls). OnOk c.step_in.result (OfCallAt calls.list c.args.k (λ call. Steps c.args.self.now c.step_in.new.self call c.args.wrote (listing_so_far calls.list c.args.k))))
    c.new-replay.ensures c.step_in.ensures.steps
