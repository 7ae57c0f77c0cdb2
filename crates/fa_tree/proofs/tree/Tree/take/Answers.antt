use Rattle.std.proofs.Common.{ℕ, [], None, sym, ◌∙◌}
use Rattle.fa_ledger.proofs.CallerLemmas.{ok_also}
use Rattle.fa_ledger.specs.Calls.{call_shown}
use Rattle.fa_ledger.specs.Operations.{action_shown, action_ended}
use Rattle.fa_ledger.specs.Operations.PlainOperation.{Acts}
use Rattle.fa_tree.specs.Operations.{action_rule, action_said, changed}
use Rattle.fa_tree.specs.Steps.{names_given, tree_done}
use Rattle.fa_tree.specs.parts.NamedParts.{named_shown}
use Rattle.fa_tree.proofs.OutcomeLemmas.{done_needs}
use Rattle.fa_tree.proofs.TakeLemmas.{done_tree, err_done}
use Rattle.fa_tree.proofs.tree.Tree.take.Goals as goal

pub take_done-requires-clause-needs : goal.take_done-requires-clause-needs
take_done-requires-clause-needs c =
    let x = named_shown c.args.named.now None in
    let call = call_shown c.args.call.now in
    let a = action_shown c.args.action.now in
    let count : ℕ = 0 in
    done_needs c.args.self.now.nodes (action_rule c.args.self.now.store x a) (action_said c.args.self.now.store (changed c.args.self.now.store x call.truncates (Acts a) count) x call.direct a) (names_given call) (action_ended a) (λ error fails. c.in_default.not-Fails error (c.ended.ensures ∙ fails)) (c.requires.judged 0 [])

pub returns-in_default : goal.returns-in_default
returns-in_default c =
    let x = named_shown c.args.named.now None in
    let call = call_shown c.args.call.now in
    let a = action_shown c.args.action.now in
    record {
      taken = ok_also c.take_done.result _ _ (λ taken.
          taken ∙ sym (done_tree c.args.self.now (tree_done c.args.self.now x call (Acts a) c.args.count) (action_ended a) (λ error fails. c.in_default.not-Fails error (c.ended.ensures ∙ fails))))
          c.take_done.ensures.taken;
      memory = err_done c.take_done.result (action_ended a) _ (λ error fails. c.in_default.not-Fails error (c.ended.ensures ∙ fails)) c.take_done.ensures.memory;
      unchanged = c.take_done.ensures.unchanged;
    }
