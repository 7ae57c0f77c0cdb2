use Rattle.std.proofs.Common.{None, inl, inr, refl}
use Rattle.fa_ledger.specs.Operations.{action_shown}
use Rattle.fa_ledger.specs.Operations.PlainOperation.{Acts}
use Rattle.fa_tree.specs.Operations.{changed}
use Rattle.fa_tree.specs.parts.NamedParts.{named_shown}
use Rattle.fa_tree.proofs.JudgeLemmas.{untrue}
use Rattle.fa_tree.proofs.tree.Tree.judge_done.Goals as goal

pub returns-then-not-may_succeed-clause-fault : goal.returns-then-not-may_succeed-clause-fault
returns-then-not-may_succeed-clause-fault c = λ count so_far.
    inl ((λ ok. untrue c.may_succeed.result c.if-not-may_succeed.true ((c.may_succeed.ensures (changed c.args.self.now.store (named_shown c.args.named.now None) c.args.call.now.truncates (Acts (action_shown c.args.action.now)) count) c.args.call.now.direct).1 ok)), refl)

pub attributes_fit-requires-clause-needs : goal.attributes_fit-requires-clause-needs
attributes_fit-requires-clause-needs c = ((c.may_succeed.ensures (changed c.args.self.now.store (named_shown c.args.named.now None) c.args.call.now.truncates (Acts (action_shown c.args.action.now)) 0) c.args.call.now.direct).0 c.if-not-may_succeed.false).0

pub returns-then-not-attributes_fit-clause-fault : goal.returns-then-not-attributes_fit-clause-fault
returns-then-not-attributes_fit-clause-fault c = λ count so_far.
    inr (
      (c.may_succeed.ensures (changed c.args.self.now.store (named_shown c.args.named.now None) c.args.call.now.truncates (Acts (action_shown c.args.action.now)) count) c.args.call.now.direct).0 c.if-not-may_succeed.false,
      inl ((λ ok. untrue c.attributes_fit.result c.if-not-attributes_fit.true ((c.attributes_fit.ensures count so_far).1 ok)), refl),
    )

pub nodes_fit-requires-clause-needs : goal.nodes_fit-requires-clause-needs
nodes_fit-requires-clause-needs c = ((c.may_succeed.ensures (changed c.args.self.now.store (named_shown c.args.named.now None) c.args.call.now.truncates (Acts (action_shown c.args.action.now)) 0) c.args.call.now.direct).0 c.if-not-may_succeed.false).0

pub returns-then-not-nodes_fit-clause-fault : goal.returns-then-not-nodes_fit-clause-fault
returns-then-not-nodes_fit-clause-fault c = λ count so_far.
    inr (
      (c.may_succeed.ensures (changed c.args.self.now.store (named_shown c.args.named.now None) c.args.call.now.truncates (Acts (action_shown c.args.action.now)) count) c.args.call.now.direct).0 c.if-not-may_succeed.false,
      inr (
        (c.attributes_fit.ensures count so_far).0 c.if-not-attributes_fit.false,
        inl ((λ ok. untrue c.nodes_fit.result c.if-not-nodes_fit.true ((c.nodes_fit.ensures count so_far).1 ok)), refl),
      ),
    )

pub returns-then-not-bytes_fit-clause-fault : goal.returns-then-not-bytes_fit-clause-fault
returns-then-not-bytes_fit-clause-fault c = λ count so_far.
    inr (
      (c.may_succeed.ensures (changed c.args.self.now.store (named_shown c.args.named.now None) c.args.call.now.truncates (Acts (action_shown c.args.action.now)) count) c.args.call.now.direct).0 c.if-not-may_succeed.false,
      inr (
        (c.attributes_fit.ensures count so_far).0 c.if-not-attributes_fit.false,
        inr (
          (c.nodes_fit.ensures count so_far).0 c.if-not-nodes_fit.false,
          inl ((λ ok. untrue c.bytes_fit.result c.if-not-bytes_fit.true ((c.bytes_fit.ensures count so_far).1 ok)), refl),
        ),
      ),
    )

pub returns-clause-ok : goal.returns-clause-ok
returns-clause-ok c = λ count so_far. (
  (c.may_succeed.ensures (changed c.args.self.now.store (named_shown c.args.named.now None) c.args.call.now.truncates (Acts (action_shown c.args.action.now)) count) c.args.call.now.direct).0 c.if-not-may_succeed.false,
  (
    (c.attributes_fit.ensures count so_far).0 c.if-not-attributes_fit.false,
    (
      (c.nodes_fit.ensures count so_far).0 c.if-not-nodes_fit.false,
      ((c.bytes_fit.ensures count so_far).0 c.if-not-bytes_fit.false, tt),
    ),
  ),
)
