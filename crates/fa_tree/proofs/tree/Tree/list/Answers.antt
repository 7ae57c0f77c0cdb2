use Rattle.std.proofs.Common.{rules, ◌≡◌, [], sym, subst, ◌∙◌}
use Rattle.std.specs.Prelude.{length}
use Rattle.std.specs.Vec.{vec_len}
use Rattle.std.proofs.lemmas.Result.{err_from_is_err_and}
use Rattle.fa_ledger.specs.Calls.{call_shown}
use Rattle.fa_ledger.specs.Operations.{PlainOperation, list_shown}
use Rattle.fa_ledger.specs.SoFar.{listing_so_far}
use Rattle.fa_tree.specs.Steps.{step_checks}
use Rattle.fa_tree.specs.Refusals.{TellsBy}
use Rattle.fa_tree.specs.declared.error.StepError.TheVariants.{Memory}
use Rattle.fa_tree.specs.parts.NodeParts.{nodes_shown}
use Rattle.fa_tree.proofs.ListingStepLemmas.{lists_to, bound_tree, none_of, some_of, giving_may_grow}
use Rattle.fa_tree.proofs.tree.Tree.list.Goals as goal
use Rattle.fa_tree.proofs.tree.Tree.list.Goals.{then-not-is_empty+in_ok-reserve_for, else-not-is_empty}

pub returns-clause-steps : goal.returns-clause-steps
returns-clause-steps c = λ wrote.
    let ok = c.in_ok-nodes.ensures.ok in
    let call = call_shown c.args.call.now in
    let l = list_shown c.args.list.now in
    let so_far = listing_so_far c.args.replay.now.list c.args.k in
    let items = c.in_ok-nodes.nodes.items in
    elim c.if-not-is_empty.branch [
      | then-not-is_empty+in_ok-reserve_for w ↦
          lists_to c.args.self.now call l c.requires.asks wrote so_far c.if-not-is_empty.self ok.0 items ok.1 ok.2 ok.3
          (w.self-is ∙ bound_tree c.args.self.now c.self.inside.stored (nodes_shown c.self.inside.nodes) (nodes_shown w.reserve_for.new.self) (nodes_shown w.bind_all.new.self)
          w.deref.result.now items c.self.view_is w.reserve_for.ensures.same w.deref.ensures.value w.bind_all.ensures.bound)
      | else-not-is_empty w ↦
          let len : vec_len c.in_ok-nodes.nodes ≡ length items = search rules in
          let none : items ≡ [] = none_of items (vec_len c.in_ok-nodes.nodes) len (sym c.is_empty.ensures ∙ w.if-not-is_empty.false) in
          lists_to c.args.self.now call l c.requires.asks wrote so_far c.if-not-is_empty.self ok.0 [] ok.1 ok.2 (sym none ∙ ok.3) w.self-is
    ]

pub returns-in_err-reserve_for-clause-refused : goal.returns-in_err-reserve_for-clause-refused
returns-in_err-reserve_for-clause-refused c =
    let p = err_from_is_err_and c.from_residual-in_err-reserve_for.result c.from_residual-in_err-reserve_for.ensures.1 in
    let ok = c.in_ok-nodes.ensures.ok in
    let call = call_shown c.args.call.now in
    let l = list_shown c.args.list.now in
    let so_far = listing_so_far c.args.replay.now.list c.args.k in
    let items = c.in_ok-nodes.nodes.items in
    let len : vec_len c.in_ok-nodes.nodes ≡ length items = search rules in
    let some : items ≡ [] → ⊥ = some_of items (vec_len c.in_ok-nodes.nodes) len (sym c.is_empty.ensures ∙ c.if-not-is_empty.true) in
    rw (p.1, p.2) (λ wrote.
    subst (λ (o : PlainOperation). TellsBy Memory o (step_checks c.args.self.now call wrote so_far)) (sym c.requires.asks)
    (giving_may_grow c.args.self.now.nodes c.args.self.now.store ok.0 call so_far l.size l.outcome items ok.3 some))
