use Rattle.fa_capture.specs.Message.{message}
use Rattle.fa_session.specs.Events.{event_shown}
use Rattle.fa_show.proofs.FollowLemmas.{next_behind}
use Rattle.fa_show.proofs.following.accept.Goals as goal

pub returns-in-Ok-accept-clause-shows : goal.returns-in-Ok-accept-clause-shows
returns-in-Ok-accept-clause-shows c before both few =
    let m = message c.args.packet.now in
    record {
      in_session = c.in-Ok.ensures.shows before both.in_session;
      behind = c.in-Ok-accept.ensures.shows before m
          (next_behind before m c.args.session.now c.args.standing.now (event_shown c.in-Ok.event) both few
          (c.in-Ok.ensures.passes before both.in_session) (c.in-Ok.ensures.event before both.in_session));
    }
