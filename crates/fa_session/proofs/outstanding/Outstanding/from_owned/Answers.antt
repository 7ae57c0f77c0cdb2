use Rattle.std.proofs.Common.{ap, ◌∙◌}
use Rattle.std.proofs.lemmas.List.{nil_from_length}
use Rattle.fa_session.proofs.ParkedLemmas.{none_filled, one_filled, all_filled}
use Rattle.fa_session.proofs.outstanding.Outstanding.from_owned.Goals as goal

pub loop-waiting-init : goal.loop-waiting-init
loop-waiting-init c =
    let begun = ap (λ rev. rev.iter) c.into_iter-waiting-iterator.ensures.into_iter_gives ∙ c.rev-waiting-items.ensures.source in
    none_filled _ _ _ (ap (λ iter. iter.rest.now) begun ∙ c.iter.ensures.rest) c.new-outstanding.ensures

pub loop-waiting-preserved : goal.loop-waiting-preserved
loop-waiting-preserved c =
    one_filled _ _ _ _ _ c.in-Some.waiting.now c.as_waiting.result c.in-Some.ensures.steps c.as_waiting.ensures.at c.as_waiting.ensures.unique c.as_waiting.ensures.request
    c.in_ok-insert.ensures.inserted c.loop-waiting.invariant

pub returns : goal.returns
returns c = all_filled _ _ _ (nil_from_length c.loop-waiting.waiting-iterator.iter.rest.now c.in-None.ensures.steps.0) c.loop-waiting.invariant
