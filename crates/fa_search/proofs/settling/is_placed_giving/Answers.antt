use Rattle.std.proofs.Common.{List, sym, subst, ◌∙◌}
use Rattle.std.specs.Prelude.{Contains}
use Rattle.fa_capture.proofs.CallerLemmas.{contains_first, contains_behind}
use Rattle.fa_search.specs.declared.flight.Pending.{Pending}
use Rattle.fa_search.proofs.settling.is_placed_giving.Goals as goal

pub loop-other-init : goal.loop-other-init
loop-other-init c = λ pending has.
    subst (λ (l : List Pending). Contains l pending) (c.into_iter-other-iterator.ensures.into_iter_gives ∙ c.values-other-items.ensures.rest) has

pub loop-other-preserved : goal.loop-other-preserved
loop-other-preserved c = λ pending has.
    c.loop-other.invariant pending
    (subst (λ (l : List Pending). Contains l pending) (sym c.in-Some.ensures.steps) (contains_behind c.in-Some.other.now c.next.new.self pending has))

pub returns-then-is_giver : goal.returns-then-is_giver
returns-then-is_giver c = λ told.
    let other = c.in-Some.other.now in
    let gives = c.is_giver.ensures c.if-is_giver.true in (
      other,
      c.loop-other.invariant other (subst (λ (l : List Pending). Contains l other) (sym c.in-Some.ensures.steps) (contains_first other c.next.new.self)),
      gives.0,
      gives.1,
    )
