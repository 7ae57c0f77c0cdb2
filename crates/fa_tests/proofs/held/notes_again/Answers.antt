use Rattle.std.proofs.Common.{Option, IfSome, subst, sym, arith}
use Rattle.fa_capture.specs.declared.limits.TheConstants.{MAX_MESSAGES}
use Rattle.fa_capture.specs.Message.{message}
use Rattle.fa_session.specs.Events.{event_shown}
use Rattle.fa_session.specs.Plain.{PlainSession}
use Rattle.fa_session.specs.Shows.{Shows}
use Rattle.fa_ledger.specs.Refusals.{IsNext}
use Rattle.fa_tests.proofs.held.notes_again.Goals as goal

pub accepts_again-is_noted-requires : goal.accepts_again-is_noted-requires
accepts_again-is_noted-requires c =
    let before = c.requires.0 in
    let m = message c.args.packet.now in
    let shown : Shows before c.in-Some.session = subst (λ (s : Option PlainSession). IfSome s (Shows before)) (sym c.in-Some.ensures.value) c.requires.3 in
    let is : IsNext before m c.args.paired.now.ledger (event_shown c.in-Ok.event) =
    record { shows = c.requires.1; few = omega (arith, c.requires.2, c.if-paired-ge-MAX_MESSAGES.false); allowed = c.in-Ok.ensures.passes before shown; event = c.in-Ok.ensures.event before shown } in
    (before, m, is)
