use Rattle.std.proofs.Common.{List, [], ◌∷◌, ◌++◌, ◌-◌, map, take, refl, sym, ap, subst, ◌∙◌}
use Rattle.std.specs.Map.Iter.{deref_pair}
use Rattle.std.proofs.lemmas.List.{append_assoc, append-nil, map-append, nil_from_length}
use Rattle.fa_ledger.specs.declared.calls.Calls.{Calls}
use Rattle.fa_order.specs.declared.entry.Entry.{Entry}
use Rattle.fa_check.specs.Replays.{IsPlacing, NextFails}
use Rattle.fa_propose.specs.declared.rank.Rank.{Rank}
use Rattle.fa_propose.specs.declared.proposing.TheConstants.{MAX_TRIED}
use Rattle.fa_propose.proofs.TryLemmas.{AreTriedSoFar, one_taken, none_left, placed_along, fails_along, first_tried, one_refused, one_placed, all_tried}
use Rattle.fa_propose.proofs.ready.place_other.Goals as goal

pub returns-then-is_empty-clause-tried : goal.returns-then-is_empty-clause-tried
returns-then-is_empty-clause-tried c =
    let none = sym c.others-others.ensures ∙ nil_from_length c.others-others.result.now.entries (c.is_empty.ensures.0 c.if-is_empty.true) in
    all_tried c.args.replay.now c.args.tree.now c.args.placing.now c.args.candidates.now (take 1 c.args.candidates.now)
    (subst (λ (es : List (Rank × Entry)). AreTriedSoFar c.args.replay.now c.args.tree.now c.args.placing.now c.args.candidates.now (take 1 c.args.candidates.now) (take (MAX_TRIED - 1) es)) none
    (first_tried c.args.replay.now c.args.tree.now c.args.placing.now c.args.candidates.now c.requires.refused)) c.args.tree.now

pub loop-rank-init : goal.loop-rank-init
loop-rank-init c =
    let given = c.into_iter-rank-iterator.ensures.into_iter_gives in
    let items = c.take-rank-items in
    let first = ap (λ n. take n items.result.iter) items.ensures.count in
    let rest = ap (λ (es : List (Rank × Entry)). take (MAX_TRIED - 1) es) (items.ensures.source ∙ c.iter.ensures.rest ∙ c.others-others.ensures) in (
      refl,
      refl,
      refl,
      subst (λ tried. AreTriedSoFar c.args.replay.now c.args.tree.now c.args.placing.now c.args.candidates.now tried (take c.into_iter-rank-iterator.result.n c.into_iter-rank-iterator.result.iter))
          (sym (append-nil (take 1 c.args.candidates.now)))
          (subst (AreTriedSoFar c.args.replay.now c.args.tree.now c.args.placing.now c.args.candidates.now (take 1 c.args.candidates.now)) (sym (ap (λ t. take t.n t.iter) given ∙ first ∙ rest))
          (first_tried c.args.replay.now c.args.tree.now c.args.placing.now c.args.candidates.now c.requires.refused)),
    )

pub place_in-requires : goal.place_in-requires
place_in-requires c =
    subst (λ (x : Calls). IsPlacing x.list x.messages c.loop-rank.placing) (sym c.loop-rank.invariant.2)
    (subst (IsPlacing c.args.replay.now.list c.args.replay.now.messages) (sym c.loop-rank.invariant.1) c.requires.placing)

pub returns-in-Ok-clause-replayed : goal.returns-in-Ok-clause-replayed
returns-in-Ok-clause-replayed c =
    placed_along c.loop-rank.replay c.args.replay.now c.args.tree.now c.loop-rank.tree c.place_in.new.tree c.args.placing.now c.loop-rank.placing c.place_in.new.self c.in-Some.entry.now
    c.loop-rank.invariant.2 c.loop-rank.invariant.0 c.loop-rank.invariant.1 c.in-Ok.ensures.placed

pub returns-in-Ok-clause-tried : goal.returns-in-Ok-clause-tried
returns-in-Ok-clause-tried c =
    let steps = c.in-Some.ensures.steps in
    let taken = one_taken c.loop-rank.rank-iterator.n c.next.new.self.n c.loop-rank.rank-iterator.iter c.next.new.self.iter (c.in-Some.rank.now, c.in-Some.entry.now) steps.0 steps.1 in
    one_placed c.args.replay.now c.args.tree.now c.args.placing.now c.args.candidates.now (take 1 c.args.candidates.now ++ map deref_pair c.loop-rank.yielded) (take c.next.new.self.n c.next.new.self.iter)
    (c.in-Some.rank.now, c.in-Some.entry.now) c.place_in.new.tree c.place_in.new.self
    (subst (AreTriedSoFar c.args.replay.now c.args.tree.now c.args.placing.now c.args.candidates.now (take 1 c.args.candidates.now ++ map deref_pair c.loop-rank.yielded)) taken c.loop-rank.invariant.3)
    (placed_along c.loop-rank.replay c.args.replay.now c.args.tree.now c.loop-rank.tree c.place_in.new.tree c.args.placing.now c.loop-rank.placing c.place_in.new.self c.in-Some.entry.now
    c.loop-rank.invariant.2 c.loop-rank.invariant.0 c.loop-rank.invariant.1 c.in-Ok.ensures.placed)

pub loop-rank-preserved : goal.loop-rank-preserved
loop-rank-preserved c =
    let steps = c.in-Some.ensures.steps in
    let p : Rank × Entry = (c.in-Some.rank.now, c.in-Some.entry.now) in
    let code = c.in-Err-Refused.field-0-0 in
    let unchanged = c.in-Err-Refused.ensures.unchanged in
    let taken = one_taken c.loop-rank.rank-iterator.n c.next.new.self.n c.loop-rank.rank-iterator.iter c.next.new.self.iter p steps.0 steps.1 in
    let fails =
    fails_along c.loop-rank.replay c.args.replay.now c.args.tree.now c.loop-rank.tree c.args.placing.now c.loop-rank.placing p.1 code c.loop-rank.invariant.2 c.loop-rank.invariant.0 c.loop-rank.invariant.1
    (subst (NextFails c.loop-rank.replay c.loop-rank.tree p.1 c.loop-rank.placing) c.in-Err-Refused.field-0-is c.in-Err-Refused.ensures.refused) in (
      unchanged.1 ∙ c.loop-rank.invariant.0,
      unchanged.0 ∙ c.loop-rank.invariant.1,
      c.place_in.ensures.same ∙ c.loop-rank.invariant.2,
      subst (λ tried. AreTriedSoFar c.args.replay.now c.args.tree.now c.args.placing.now c.args.candidates.now tried (take c.next.new.self.n c.next.new.self.iter))
          (append_assoc (take 1 c.args.candidates.now) (map deref_pair c.loop-rank.yielded) (p ∷ [])
          ∙ ap (λ ps. take 1 c.args.candidates.now ++ ps) (sym (map-append deref_pair c.loop-rank.yielded ((c.in-Some.rank, c.in-Some.entry) ∷ []))))
          (one_refused c.args.replay.now c.args.tree.now c.args.placing.now c.args.candidates.now (take 1 c.args.candidates.now ++ map deref_pair c.loop-rank.yielded) (take c.next.new.self.n c.next.new.self.iter) p code
          (subst (AreTriedSoFar c.args.replay.now c.args.tree.now c.args.placing.now c.args.candidates.now (take 1 c.args.candidates.now ++ map deref_pair c.loop-rank.yielded)) taken c.loop-rank.invariant.3) fails),
    )

pub returns-clause-tried : goal.returns-clause-tried
returns-clause-tried c =
    let left = none_left c.loop-rank.rank-iterator.n c.loop-rank.rank-iterator.iter (λ some. (c.in-None.ensures.steps some).0) in
    all_tried c.args.replay.now c.args.tree.now c.args.placing.now c.args.candidates.now (take 1 c.args.candidates.now ++ map deref_pair c.loop-rank.yielded)
    (subst (AreTriedSoFar c.args.replay.now c.args.tree.now c.args.placing.now c.args.candidates.now (take 1 c.args.candidates.now ++ map deref_pair c.loop-rank.yielded)) left c.loop-rank.invariant.3) c.args.tree.now
