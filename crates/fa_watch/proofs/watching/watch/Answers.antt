use Rattle.std.proofs.Common.{refl, sym}
use Rattle.fa_watch.proofs.WatchLemmas.{nothing_so_far, put_aside}
use Rattle.fa_watch.proofs.watching.watch.Goals as goal

pub loop-pulls-init : goal.loop-pulls-init
loop-pulls-init g c =
    nothing_so_far (g.R.Input.remaining c.args.input.now) c.new-stream.result c.new-parked.result (g.R.Input.has_failed c.args.input.now) (g.R.Input.was_interrupted c.args.input.now)
    (record { come = c.new-stream.ensures.incoming; shown = record { in_session = c.new-parked.ensures; behind = c.new-stream.ensures.standing } }) c.requires.unfailed

pub returns-in-Some-clause-seen : goal.returns-in-Some-clause-seen
returns-in-Some-clause-seen g c =
    let resumed = put_aside _ _ c.loop-pulls.stream c.loop-pulls.parked c.in_ok-session.session _ _ _ (sym c.in_ok-session.ensures) c.loop-pulls.invariant in
    (rw c.in-Some.is at c.in_ok-seen.ensures.seen) (g.R.Input.remaining c.args.input.now) resumed

pub loop-pulls-preserved : goal.loop-pulls-preserved
loop-pulls-preserved g c =
    let resumed = put_aside _ _ c.loop-pulls.stream c.loop-pulls.parked c.in_ok-session.session _ _ _ (sym c.in_ok-session.ensures) c.loop-pulls.invariant in
    put_aside _ _ c.read_on.new.stream c.read_on.new.session c.in_ok-next.next _ _ _ (sym c.in_ok-next.ensures) ((rw c.in_default.is at c.in_ok-seen.ensures.on) refl (g.R.Input.remaining c.args.input.now) resumed)
