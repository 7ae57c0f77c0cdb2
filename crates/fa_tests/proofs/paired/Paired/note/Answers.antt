use Rattle.std.proofs.Common.{◌≡◌, ◌<◌, ◌∷◌, ◌++◌, ◌+◌, [], Option, IfSome, length, length-append, sym, subst, arith}
use Rattle.fa_capture.specs.declared.limits.TheConstants.{MAX_MESSAGES}
use Rattle.fa_capture.specs.Message.{message}
use Rattle.fa_session.specs.Events.{event_shown}
use Rattle.fa_session.specs.Plain.{PlainSession}
use Rattle.fa_session.specs.Shows.{Shows}
use Rattle.fa_ledger.specs.Refusals.{IsNext}
use Rattle.fa_tests.proofs.paired.Paired.note.Goals as goal

-- src/paired.rt:109:15
pub noted-requires : goal.noted-requires
noted-requires c =
    let is : IsNext c.requires.0 (message c.args.packet.now) c.args.self.now.ledger (event_shown c.args.event) =
    record { shows = c.requires.1; few = subst (λ n. n < MAX_MESSAGES) c.requires.2 c.requires.3; allowed = c.requires.6; event = c.requires.7 } in
    (c.requires.0, message c.args.packet.now, is)

-- src/paired.rt:107:5
pub returns-in-Ok : goal.returns-in-Ok
returns-in-Ok c =
    let before = c.requires.0 in
    let m = message c.args.packet.now in
    let is : IsNext before m c.args.self.now.ledger (event_shown c.args.event) =
    record { shows = c.requires.1; few = subst (λ n. n < MAX_MESSAGES) c.requires.2 c.requires.3; allowed = c.requires.6; event = c.requires.7 } in
    let more : c.args.self.now.taken + 1 ≡ length (before ++ m ∷ []) = let long = length-append before (m ∷ []) in omega (arith, long, c.requires.2) in
    let spare = subst (λ (s : Option PlainSession). IfSome s (Shows before)) (sym c.take-spare.ensures.value) c.requires.4 in
    (before ++ m ∷ [], c.in-Ok.ensures.shows before m is, more, c.requires.5, c.further.ensures before spare)
