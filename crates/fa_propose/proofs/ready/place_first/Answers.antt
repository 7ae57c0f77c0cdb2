use Rattle.std.proofs.Common.{[], ◌-◌, take, drop, sym, subst, ◌∙◌}
use Rattle.fa_check.specs.Replays.{NextFails}
use Rattle.fa_propose.specs.declared.proposing.TheConstants.{MAX_TRIED}
use Rattle.fa_propose.proofs.TryLemmas.{fails_along, none_tried, one_placed}
use Rattle.fa_propose.proofs.ready.place_first.Goals as goal

pub place_other-requires-clause-refused : goal.place_other-requires-clause-refused
place_other-requires-clause-refused c =
    let code = c.in-Err-Refused.field-0-0 in
    let unchanged = c.in-Err-Refused.ensures.unchanged in (
      (c.in-Some.rank, c.in-Some.entry),
      code,
      sym c.first.ensures.first ∙ c.in-Some.is,
      fails_along c.args.replay.now c.place_in.new.replay c.place_in.new.tree c.args.tree.now c.place_in.new.self c.args.placing.now c.in-Some.entry code (sym c.place_in.ensures.same)
          (sym unchanged.1) (sym unchanged.0) (subst (NextFails c.args.replay.now c.args.tree.now c.in-Some.entry c.args.placing.now) c.in-Err-Refused.field-0-is c.in-Err-Refused.ensures.refused),
    )

pub returns-in-Ok-clause-replayed : goal.returns-in-Ok-clause-replayed
returns-in-Ok-clause-replayed c = c.in-Ok.ensures.placed

pub returns-in-Ok-clause-tried : goal.returns-in-Ok-clause-tried
returns-in-Ok-clause-tried c =
    one_placed c.args.replay.now c.args.tree.now c.args.placing.now c.args.candidates.now [] (take (MAX_TRIED - 1) (drop 1 c.args.candidates.now)) (c.in-Some.rank, c.in-Some.entry) c.place_in.new.tree c.place_in.new.self
    (none_tried c.args.replay.now c.args.tree.now c.args.placing.now c.args.candidates.now (c.in-Some.rank, c.in-Some.entry) (sym c.first.ensures.first ∙ c.in-Some.is)) c.in-Ok.ensures.placed

pub returns-in-Err-Refused-clause-tried : goal.returns-in-Err-Refused-clause-tried
returns-in-Err-Refused-clause-tried c =
    let unchanged = c.in-Err-Refused.ensures.unchanged in
    rw (c.place_in.ensures.same, unchanged.0, unchanged.1) at c.place_other.ensures.tried
