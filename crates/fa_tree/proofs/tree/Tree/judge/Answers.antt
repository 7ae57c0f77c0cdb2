use Rattle.std.proofs.Common.{rules, ℤ, None, sym, subst, ◌∙◌}
use Rattle.std.specs.Int.{w32}
use Rattle.std.proofs.lemmas.Int.{to_z-of_z}
use mir.Val.{SFits}
use Rattle.fa_tree.specs.Rules.{HasCause}
use Rattle.fa_ledger.proofs.CallerLemmas.{ok_also, err_also}
use Rattle.fa_ledger.specs.Calls.{call_shown}
use Rattle.fa_ledger.specs.Operations.{action_shown, action_ended}
use Rattle.fa_ledger.specs.Operations.PlainOperation.{Acts}
use Rattle.fa_tree.specs.Operations.{action_rule, action_said, changed}
use Rattle.fa_tree.specs.Steps.{names_given}
use Rattle.fa_tree.specs.parts.NamedParts.{named_shown}
use Rattle.fa_tree.proofs.JudgeLemmas.{untrue}
use Rattle.fa_tree.proofs.OutcomeLemmas.{acts_list_nothing, errors_say_nothing, done_hold, done_fail, error_hold, error_fail}
use Rattle.fa_tree.proofs.tree.Tree.judge.Goals as goal

pub returns-then-has_cause : goal.returns-then-has_cause
returns-then-has_cause c = record {
  ok = λ count so_far.
      let x = named_shown c.args.named.now None in
      let call = call_shown c.args.call.now in
      let a = action_shown c.args.action.now in
      let fails = sym c.ended.ensures ∙ c.in-Fails.is in
      let fits : SFits w32 c.in-Fails.error = search rules in
      error_hold c.args.self.now.nodes (action_rule c.args.self.now.store x a) (action_said c.args.self.now.store (changed c.args.self.now.store x call.truncates (Acts a) count) x call.direct a) (names_given call) (action_ended a) c.in-Fails.error fails
      (errors_say_nothing c.args.self.now.store (changed c.args.self.now.store x call.truncates (Acts a) count) x call.direct a c.in-Fails.error fails)
      (subst (λ (e : ℤ). HasCause (action_rule c.args.self.now.store x a) e) (to_z-of_z w32 c.in-Fails.error fits) (c.has_cause.ensures.0 c.if-has_cause.true));
  fault = tt;
}

pub returns-else-has_cause : goal.returns-else-has_cause
returns-else-has_cause c = record {
  ok = tt;
  fault = λ count so_far.
      let x = named_shown c.args.named.now None in
      let call = call_shown c.args.call.now in
      let a = action_shown c.args.action.now in
      let fits : SFits w32 c.in-Fails.error = search rules in
      error_fail c.args.self.now.nodes (action_rule c.args.self.now.store x a) (action_said c.args.self.now.store (changed c.args.self.now.store x call.truncates (Acts a) count) x call.direct a) (names_given call) (action_ended a) c.in-Fails.error (sym c.ended.ensures ∙ c.in-Fails.is)
      (λ caused. untrue c.has_cause.result c.if-has_cause.false
      (c.has_cause.ensures.1 (subst (λ (e : ℤ). HasCause (action_rule c.args.self.now.store x a) e) (sym (to_z-of_z w32 c.in-Fails.error fits)) caused)));
}

pub returns-in_default : goal.returns-in_default
returns-in_default c =
    let x = named_shown c.args.named.now None in
    let call = call_shown c.args.call.now in
    let a = action_shown c.args.action.now in
    record {
      ok = ok_also c.judge_done.result _ _ (λ hold count so_far.
          done_hold c.args.self.now.nodes (action_rule c.args.self.now.store x a) (action_said c.args.self.now.store (changed c.args.self.now.store x call.truncates (Acts a) count) x call.direct a) (names_given call) (action_ended a) (λ error fails. c.in_default.not-Fails error (c.ended.ensures ∙ fails))
          (acts_list_nothing c.args.self.now.store (changed c.args.self.now.store x call.truncates (Acts a) count) x call.direct a) (hold count so_far)) c.judge_done.ensures.ok;
      fault = err_also c.judge_done.result _ _ (λ code failure count so_far.
          done_fail c.args.self.now.nodes (action_rule c.args.self.now.store x a) (action_said c.args.self.now.store (changed c.args.self.now.store x call.truncates (Acts a) count) x call.direct a) (names_given call) (action_ended a) (λ error fails. c.in_default.not-Fails error (c.ended.ensures ∙ fails)) code (failure count so_far)) c.judge_done.ensures.fault;
    }
