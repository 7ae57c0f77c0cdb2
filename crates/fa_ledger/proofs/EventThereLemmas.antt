-- A message that the session allows has an event, and messages that are all allowed have a list of them.
use Rattle.std.proofs.Common.{◌≡◌, ℕ, zero, suc, ◌≤◌, List, [], ◌∷◌, ◌++◌, length, take, refl, sym, subst, inl, inr, arith}
use Rattle.std.proofs.lemmas.List.{take_all}
use Rattle.std.proofs.lemmas.Bool.{cases_lt}
use Rattle.fa_capture.specs.declared.packet.Direction.TheVariants.{ToServer, FromServer}
use Rattle.fa_capture.specs.Checks.{AllHold, checks_of}
use Rattle.fa_capture.specs.Message.{Message}
use Rattle.fa_capture.proofs.CallerLemmas.{hold_front, hold_later, take_with_next}
use Rattle.fa_bodies.specs.Requests.{request_checks}
use Rattle.fa_bodies.specs.Replies.{reply_head_checks}
use Rattle.fa_bodies.proofs.CallerLemmas.{request_passes_checks, head-checks}
use Rattle.fa_session.specs.Answers.{IsReplyMessage}
use Rattle.fa_session.specs.Allowed.{ForRequest, ForReply, request_rules, reply_rules, answer_checks, checks_by, IsAllowed, EachAllowed}
use Rattle.fa_session.specs.Events.{PlainEvent, IsEvent}
use Rattle.fa_session.specs.Events.PlainEvent.{Asked, Answered, Notice}
use Rattle.fa_ledger.specs.Events.{AreEvents}
use Rattle.fa_ledger.specs.Laws.{EventsAreThere}
use Rattle.fa_ledger.proofs.EventLemmas.{element_at}
use Rattle.fa_ledger.proofs.CallStepLemmas.{events_more}

-- a message that went to the server is a request
sent_event : (before : List Message) (m : Message) → m.direction ≡ ToServer → AllHold (checks_by ToServer before m) → (e : PlainEvent) × IsEvent before m e
sent_event before m to hold =
    let found = (request_passes_checks m.bytes).0 (hold_front (request_checks m.bytes) (checks_of (ForRequest m) (request_rules before)) hold) in
    (Asked (length before) found.0, (refl, (to, found.1)))

-- one that came from it is a reply, or a notification where its unique is 0
come_event : (before : List Message) (m : Message) → m.direction ≡ FromServer → AllHold (checks_by FromServer before m) → (e : PlainEvent) × IsEvent before m e
come_event before m from hold =
    let head = (head-checks m.bytes).0 (hold_front (reply_head_checks m.bytes) (answer_checks before m ++ checks_of (ForReply before m) reply_rules) hold) in
    let rest = hold_later (reply_head_checks m.bytes) (answer_checks before m ++ checks_of (ForReply before m) reply_rules) hold in
    elim (cases_lt 0 head.0.unique) [
      | inl some ↦
          let reply : IsReplyMessage m head.0.unique = (head.0, (from, head.1), refl, (λ none. omega (arith, some, none))) in
          let answers = rest.1.0 head.0.unique reply in
          let says = rest.1.1.0 answers.0 answers.1 answers.2 in
          (Answered (length before) answers.0 answers.1 says.0, (refl, answers.2, says.1))
      | inr none ↦ (Notice (length before), (refl, (head.0, (from, head.1), omega (arith, none))))
    ]

pub event_there : (before : List Message) (m : Message) → IsAllowed before m → (e : PlainEvent) × IsEvent before m e
event_there before m allowed =
    elim m.direction as (λ d. m.direction ≡ d → AllHold (checks_by d before m) → (e : PlainEvent) × IsEvent before m e) [
      | ToServer ↦ sent_event before m
      | FromServer ↦ come_event before m
    ] refl allowed

-- the first n of messages that are allowed have events
first_events : (c : List Message) → EachAllowed c → (n : ℕ) → n ≤ length c → (es : List PlainEvent) × AreEvents (take n c) es
first_events c allowed zero within = ([], record { counted = refl; each = λ i m e message event. absurd cc })
first_events c allowed (suc n) within =
    let before = first_events c allowed n (omega (arith, within)) in
    let message = element_at c n within in
    let event = event_there (take n c) message.0 (allowed n message.0 message.1) in
    (before.0 ++ event.0 ∷ [], subst (λ x. AreEvents x (before.0 ++ event.0 ∷ [])) (sym (take_with_next c n message.0 message.1)) (events_more (take n c) message.0 before.0 event.0 before.1 event.1))

pub events_are_there : EventsAreThere
events_are_there c allowed =
    let found = first_events c allowed (length c) (omega arith) in
    (found.0, subst (λ x. AreEvents x found.0) (take_all (length c) c (omega arith)) found.1)
