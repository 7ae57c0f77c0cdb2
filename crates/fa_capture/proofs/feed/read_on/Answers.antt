use Rattle.std.proofs.Common.{sym, subst, ◌∙◌}
use Rattle.fa_capture.specs.parts.Walks.{HasRead}
use Rattle.fa_capture.proofs.StopLemmas.{on_from_stop, from_start}
use Rattle.fa_capture.proofs.feed.read_on.Goals as goal
use Rattle.fa_capture.proofs.feed.read_on.Goals.{in-Some, in-None+in_ok-walk-in-None}

pub into_stop-requires : goal.into_stop-requires
into_stop-requires c = elim c.match-before.branch [
  | in-Some w ↦ on_from_stop c.args.bytes.now c.args.before w.in-Some.stop c.match-before.walk w.in-Some.is (w.walk-is ∙ w.from_stop-walk.ensures) c.requires
  | in-None+in_ok-walk-in-None w ↦ subst (HasRead c.args.bytes.now) (sym w.walk-is) (from_start c.args.bytes.now _ w.in_ok-walk-in-None.ensures.found)
]
