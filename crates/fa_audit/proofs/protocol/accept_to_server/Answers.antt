use Rattle.std.proofs.Common.{subst, sym}
use Rattle.std.proofs.lemmas.Result.{err_from_is_err_and}
use Rattle.fa_capture.specs.Message.{message}
use Rattle.fa_session.specs.Events.{event_shown}
use Rattle.fa_session.specs.Plain.{PlainSession}
use Rattle.fa_session.specs.Shows.{Shows}
use Rattle.fa_watch.proofs.CallerLemmas.{session_refuses}
use Rattle.fa_audit.proofs.ProtocolLemmas.{next_of_both}
use Rattle.fa_audit.proofs.protocol.accept_to_server.Goals as goal

pub returns-in_err-asked-clause-refused : goal.returns-in_err-asked-clause-refused
returns-in_err-asked-clause-refused c =
    let p = err_from_is_err_and c.from_residual.result c.from_residual.ensures.1 in
    rw (p.1, p.2) (λ before both few. session_refuses before (message c.args.packet.now) c.in_err-asked.field-0.0 (c.in_err-asked.ensures.refused before (rw c.set_tag.ensures both.session)))

pub returns-clause-shows : goal.returns-clause-shows
returns-clause-shows c before both few =
    let m = message c.args.packet.now in
    let session = subst (λ (tagged : PlainSession). Shows before tagged) (sym c.set_tag.ensures) both.session in
    record {
      session = c.in_ok-asked.ensures.shows before session;
      ledger = c.in_ok-accept.ensures.shows before m
          (next_of_both before m c.args.session.now c.args.ledger.now (event_shown c.in_ok-asked.asked) both few
          (c.in_ok-asked.ensures.passes before session) (c.in_ok-asked.ensures.event before session));
    }
