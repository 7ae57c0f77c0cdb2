use Rattle.std.proofs.Common.{Option, ap, sym, ◌∙◌}
use Rattle.std.specs.Prelude.{option_map}
use Rattle.fa_ledger.specs.declared.operation.Action.{Action}
use Rattle.fa_ledger.specs.Operations.{PlainAction, PlainOperation, action_shown}
use Rattle.fa_ledger.specs.Operations.PlainOperation.{Acts}
use Rattle.fa_ledger.proofs.OperationLemmas.{acts_by}
use Rattle.fa_ledger.proofs.operation.Operation.of.Goals as goal

pub returns-in-Some : goal.returns-in-Some
returns-in-Some c =
    let shown : Option Action → Option PlainAction = λ o. option_map action_shown o in
    let acts : Option PlainAction → Option PlainOperation = λ o. option_map (λ (a : PlainAction). Acts a) o in
    ap acts (ap shown (sym c.in-Some.is) ∙ c.of.ensures) ∙ sym (acts_by c.args.body.now _ c.in_default.not-Readdir c.in_default.not-Readdirplus)
