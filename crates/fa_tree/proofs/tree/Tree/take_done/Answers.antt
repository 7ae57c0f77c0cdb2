use Rattle.std.proofs.Common.{[], ◌∷◌, ap, None, ◌∙◌, refl}
use Rattle.std.specs.FinMap.{insert}
use Rattle.fa_ledger.specs.Calls.{call_shown}
use Rattle.fa_ledger.specs.Operations.{action_shown}
use Rattle.fa_ledger.specs.Operations.PlainOperation.{Acts}
use Rattle.fa_tree.specs.Operations.{changed}
use Rattle.fa_tree.specs.Steps.{names_given}
use Rattle.fa_tree.specs.parts.NamedParts.{named_shown}
use Rattle.fa_tree.specs.parts.NodeParts.{nodes_shown}
use Rattle.fa_ledger.proofs.CallerLemmas.{ok_also, either_way}
use Rattle.fa_tree.proofs.TakeLemmas.{left_tree, giving_grows}
use Rattle.fa_tree.proofs.tree.Tree.take_done.Goals as goal

pub returns-in-None-clause-taken : goal.returns-in-None-clause-taken
returns-in-None-clause-taken c =
    let x = named_shown c.args.named.now None in
    ok_also c.leave.result _ _ (λ left.
    left_tree c.self.inside.stored c.leave.new.self (nodes_shown c.self.inside.nodes) (nodes_shown c.self.inside.nodes) c.args.self.now x (call_shown c.args.call.now)
    (action_shown c.args.action.now) c.args.count [] c.self.view_is (rw (← c.opens_anew-opens.ensures) (left None)) (c.in-None.ensures c.args.count [] c.requires.needs) refl)
    c.leave.ensures.left

pub returns-in_ok-leave-in-Some-clause-taken : goal.returns-in_ok-leave-in-Some-clause-taken
returns-in_ok-leave-in-Some-clause-taken c =
    let x = named_shown c.args.named.now None in
    left_tree c.self.inside.stored c.leave-in-Some.new.self (nodes_shown c.self.inside.nodes) (nodes_shown c.bind.new.self) c.args.self.now x (call_shown c.args.call.now)
    (action_shown c.args.action.now) c.args.count (c.in-Some.given ∷ []) c.self.view_is (rw (← c.opens_anew-opens.ensures) (c.in_ok-leave-in-Some.ensures.left None))
    (c.in-Some.ensures c.args.count [] c.requires.needs)
    (c.bind.ensures.bound ∙ ap (λ nodes. insert nodes c.in-Some.given.0 c.in-Some.given.1) c.reserve.ensures.same)

pub returns-in_err-reserve-in-Some-clause-memory : goal.returns-in_err-reserve-in-Some-clause-memory
returns-in_err-reserve-in-Some-clause-memory c =
    let x = named_shown c.args.named.now None in
    let a = action_shown c.args.action.now in
    either_way c.from_residual.result (giving_grows c.args.self.now.store (changed c.args.self.now.store x c.args.call.now.truncates (Acts a) 0) x c.args.call.now.direct
    (names_given (call_shown c.args.call.now)) a c.in-Some.given (c.in-Some.ensures 0 [] c.requires.needs))
