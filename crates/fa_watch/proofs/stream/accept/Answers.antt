use Rattle.std.proofs.lemmas.Result.{err_from_is_err_and}
use Rattle.fa_capture.specs.Message.{message}
use Rattle.fa_session.specs.Events.{event_shown}
use Rattle.fa_watch.proofs.MessageLemmas.{session_refuses, next_behind}
use Rattle.fa_watch.proofs.stream.accept.Goals as goal

pub returns-in_err-event-clause-refused : goal.returns-in_err-event-clause-refused
returns-in_err-event-clause-refused c =
    let p = err_from_is_err_and c.from_residual.result c.from_residual.ensures.1 in
    rw (p.1, p.2) (λ before both few. session_refuses before (message c.args.packet.now) c.in_err-event.field-0.0 (c.in_err-event.ensures.refused before both.in_session))

pub returns-clause-shows : goal.returns-clause-shows
returns-clause-shows c before both few =
    let m = message c.args.packet.now in
    record {
      in_session = c.in_ok-event.ensures.shows before both.in_session;
      behind = c.in_ok-accept.ensures.shows before m
          (next_behind before m c.args.session.now c.args.standing.now (event_shown c.in_ok-event.event) both few
          (c.in_ok-event.ensures.passes before both.in_session) (c.in_ok-event.ensures.event before both.in_session));
    }
