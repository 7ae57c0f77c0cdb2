use Rattle.std.proofs.Common.{refl, arith, ◌∙◌}
use Rattle.std.proofs.lemmas.Option.{slice_get-get_or}
use Rattle.fa_tree.specs.parts.NodeParts.{nodes_shown}
use Rattle.fa_tree.proofs.NodeLemmas.{none_seen, more_seen}
use Rattle.fa_tree.proofs.BindingLemmas.{all_may_be, one_may_be, one_may_follow}
use Rattle.fa_tree.proofs.nodes.Nodes.may_bind_all.Goals as goal
use Rattle.fa_tree.proofs.nodes.Nodes.may_bind_all.Goals.{then-not-may_bind-via-then-not-may_bind, then-not-may_bind-via-else-not-may_bind+then-not-may_bind-2}

pub loop-one-init : goal.loop-one-init
loop-one-init c = (
  none_seen (nodes_shown c.args.self.now) (nodes_shown c.reserve_for.new.self) c.args.given.now (c.reserve_for.ensures.same ∙ c.new-seen.ensures),
  omega (arith, c.in_ok-reserve_for.ensures.room),
)

pub returns-then-not-may_bind : goal.returns-then-not-may_bind
returns-then-not-may_bind c =
    let there = slice_get-get_or c.args.given.now c.loop-one.one-index _ c.loop-one-test.true in (
      (λ no. absurd cc),
      (λ may.
          elim c.then-not-may_bind.branch [
            | then-not-may_bind-via-then-not-may_bind w ↦
                w.if-not-may_bind.ensures.1 (one_may_be _ c.args.given.now c.loop-one.one-index _ c.loop-one-test.true there may)
            | then-not-may_bind-via-else-not-may_bind+then-not-may_bind-2 w ↦
                w.if-not-may_bind-2.ensures.1
                (one_may_follow _ _ c.args.given.now c.loop-one.one-index _ c.loop-one-test.true there c.loop-one.invariant.0 may)
          ]),
    )

pub bind-requires : goal.bind-requires
bind-requires c = record { room = omega (arith, c.loop-one.invariant.1, c.loop-one-test.true) }

pub loop-one-preserved : goal.loop-one-preserved
loop-one-preserved c =
    let there = slice_get-get_or c.args.given.now c.loop-one.one-index _ c.loop-one-test.true in (
      more_seen _ _ _ c.args.given.now c.loop-one.one-index _ c.loop-one.invariant.0 there
          (c.if-not-may_bind.ensures.0 refl) (c.if-not-may_bind-2.ensures.0 refl) c.bind.ensures.bound,
      omega (arith, c.loop-one.invariant.1, c.bind.ensures.left),
    )

pub returns : goal.returns
returns c = ((λ t. all_may_be _ _ c.args.given.now c.loop-one.one-index (omega (arith, c.loop-one-test.false)) c.loop-one.invariant.0), (λ may. refl))
