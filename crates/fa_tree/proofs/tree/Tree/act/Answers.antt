use Rattle.std.proofs.Common.{None, sym, ap, subst, ◌∙◌}
use Rattle.std.proofs.lemmas.Result.{err_from_is_err_and}
use Rattle.fa_ledger.specs.Calls.{call_shown}
use Rattle.fa_ledger.specs.Operations.{action_shown}
use Rattle.fa_ledger.specs.Operations.PlainOperation.{Acts}
use Rattle.fa_tree.specs.Operations.{count_written}
use Rattle.fa_tree.specs.Steps.{step_checks, tree_after}
use Rattle.fa_tree.specs.Refusals.{TellsBy}
use Rattle.fa_tree.specs.declared.error.StepError.TheVariants.{Memory}
use Rattle.fa_tree.specs.parts.NamedParts.{named_shown}
use Rattle.fa_tree.proofs.StepLemmas.{refused_so, all_hold_so, steps_so}
use Rattle.fa_tree.proofs.tree.Tree.act.Goals as goal

pub returns-in_err-judge-in-Some-clause-refused : goal.returns-in_err-judge-in-Some-clause-refused
returns-in_err-judge-in-Some-clause-refused c =
    let o = Acts (action_shown c.args.action.now) in
    let p = err_from_is_err_and c.from_residual.result c.from_residual.ensures.1 in
    rw (p.1, p.2) (λ so_far.
    refused_so c.args.self.now (call_shown c.args.call.now) o c.requires.asks c.args.wrote so_far (named_shown c.in-Some.named None) c.in-Some.ensures.found _
    (c.in_err-judge-in-Some.ensures.fault (count_written o c.args.wrote) so_far))

pub returns-in_ok-take-in-Some-clause-steps : goal.returns-in_ok-take-in-Some-clause-steps
returns-in_ok-take-in-Some-clause-steps c = λ so_far.
    let o = Acts (action_shown c.args.action.now) in
    let call = call_shown c.args.call.now in
    let x = named_shown c.in-Some.named None in
    steps_so c.args.self.now call o c.requires.asks c.args.wrote so_far x c.in-Some.ensures.found c.take.new.self
    (c.in_ok-judge-in-Some.ensures.ok (count_written o c.args.wrote) so_far)
    (c.in_ok-take-in-Some.ensures.taken ∙ ap (tree_after c.args.self.now x call o) c.count_written-count.ensures)

pub returns-in_err-take-in-Some-clause-refused : goal.returns-in_err-take-in-Some-clause-refused
returns-in_err-take-in-Some-clause-refused c =
    let o = Acts (action_shown c.args.action.now) in
    let call = call_shown c.args.call.now in
    let p = err_from_is_err_and c.from_residual-in_err-take-in-Some.result c.from_residual-in_err-take-in-Some.ensures.1 in
    rw (p.1, p.2) (λ so_far.
    subst (λ operation. TellsBy Memory operation (step_checks c.args.self.now call c.args.wrote so_far)) (sym c.requires.asks) (
      c.in_err-take-in-Some.ensures.memory,
      all_hold_so c.args.self.now call o c.requires.asks c.args.wrote so_far (named_shown c.in-Some.named None) c.in-Some.ensures.found
          (c.in_ok-judge-in-Some.ensures.ok (count_written o c.args.wrote) so_far),
    ))
