use Rattle.std.proofs.Common.{◌≡◌, Bor, Some, ℕ, Option, sym, ap, ◌∙◌, subst, option_map}
use Rattle.std.proofs.lemmas.Result.{err_from_is_err_and}
use Rattle.fa_capture.specs.Message.{message}
use Rattle.fa_bodies.specs.Requests.{PlainRequest, request_shown}
use Rattle.fa_bodies.specs.Replies.{reply_shown}
use Rattle.fa_session.specs.Plain.{PlainWaiting}
use Rattle.fa_session.specs.parts.Steps.{NotesReply, waiting_for}
use Rattle.fa_session.specs.declared.event.RequestMessage.{RequestMessage}
use Rattle.fa_session.specs.declared.waiting.Waiting.{Waiting}
use Rattle.fa_session.specs.parts.View.{asked_shown, waiting_shown}
use Rattle.fa_session.proofs.ShowsLemmas.{IsOnlyHead, IsMatched, shows_noticed, shows_answered, matched_answers}
use Rattle.fa_session.proofs.MessageLemmas.{IsOnlyReply, none_waits, body_fails, reply_fails, reply_passes, notice_passes}
use Rattle.fa_session.proofs.session.Session.accept_from_server.Goals as goal

-- a request that is found is found as its message says that is read again
found_again : (found : Option PlainWaiting) (w : Waiting) (message : RequestMessage) → found ≡ Some (waiting_shown w) → request_shown message.request ≡ w.said.0
    → found ≡ Some (asked_shown w.at message)
found_again found w message is said = is ∙ ap (λ (r : PlainRequest). Some (record { at = w.at; request = r })) (sym said)

pub returns-then-head-eq0-clause-passes : goal.returns-then-head-eq0-clause-passes
returns-then-head-eq0-clause-passes c =
    let m = message c.args.packet.now in
    let arm = c.in_ok-head in
    let is : IsOnlyHead m arm.head = record { is = (c.requires.direction, arm.ensures.found); only = arm.ensures.only } in
    λ before shows. notice_passes before m c.args.self.now arm.head is arm.ensures.passes shows
    (λ zero. let yes = c.is_empty.ensures.1 zero in let no = c.if-is_empty.false in absurd cc) c.if-head-eq0.true

pub returns-then-head-eq0-clause-shows : goal.returns-then-head-eq0-clause-shows
returns-then-head-eq0-clause-shows c =
    let m = message c.args.packet.now in
    let arm = c.in_ok-head in
    let is : IsOnlyHead m arm.head = record { is = (c.requires.direction, arm.ensures.found); only = arm.ensures.only } in
    rw c.next_number-at.ensures.counted (λ before shows. shows_noticed before m c.args.self.now arm.head shows is c.if-head-eq0.true
    (notice_passes before m c.args.self.now arm.head is arm.ensures.passes shows
    (λ zero. let yes = c.is_empty.ensures.1 zero in let no = c.if-is_empty.false in absurd cc) c.if-head-eq0.true))

pub returns-in_default-clause-refused : goal.returns-in_default-clause-refused
returns-in_default-clause-refused c =
    let m = message c.args.packet.now in
    let arm = c.in_ok-head in
    let is : IsOnlyHead m arm.head = record { is = (c.requires.direction, arm.ensures.found); only = arm.ensures.only } in
    λ before shows. none_waits before m c.args.self.now arm.head is arm.ensures.passes shows
    (λ zero. let yes = c.is_empty.ensures.1 zero in let no = c.if-is_empty.false in absurd cc) c.if-head-eq0.false
    (sym c.waiting_for.ensures.found ∙ ap (option_map (λ (w : Bor Waiting). waiting_shown w.now)) c.in_default.is)

pub returns-in_err-reply_body-clause-refused :
    goal.returns-in_err-reply_body-clause-refused
returns-in_err-reply_body-clause-refused c =
    let m = message c.args.packet.now in
    let arm = c.in_ok-head in
    let w = asked_shown c.in-Some.waiting.now.at c.message-message.result in
    let is : IsOnlyHead m arm.head = record { is = (c.requires.direction, arm.ensures.found); only = arm.ensures.only } in
    let p = err_from_is_err_and c.from_residual-in_err-reply_body.result c.from_residual-in_err-reply_body.ensures.1 in
    rw (p.1, p.2) (λ before shows.
    let matched : IsMatched before m c.args.self.now arm.head w = record {
      shows = shows;
      head_is = is;
      reply = c.if-head-eq0.false;
      found = found_again (waiting_for c.args.self.now arm.head.unique) c.in-Some.waiting.now c.message-message.result (sym c.waiting_for.ensures.found ∙ ap (option_map (λ (w : Bor Waiting). waiting_shown w.now)) c.in-Some.is) c.message-message.ensures.request;
      unique = c.message-message.ensures.unique ∙ c.in-Some.ensures.unique;
    } in
    body_fails before m c.args.self.now arm.head w c.in_err-reply_body.field-0.0 arm.ensures.passes
    (λ zero. let yes = c.is_empty.ensures.1 zero in let no = c.if-is_empty.false in absurd cc) matched c.in_err-reply_body.ensures.fault)

pub returns-in_err-check_reply-clause-refused :
    goal.returns-in_err-check_reply-clause-refused
returns-in_err-check_reply-clause-refused c =
    let m = message c.args.packet.now in
    let arm = c.in_ok-head in
    let w = asked_shown c.in-Some.waiting.now.at c.message-message.result in
    let said = c.in_ok-reply_body in
    let is : IsOnlyHead m arm.head = record { is = (c.requires.direction, arm.ensures.found); only = arm.ensures.only } in
    let one : IsOnlyReply m w.request (reply_shown said.field-0) = record { found = said.ensures.found; only = said.ensures.only } in
    let p = err_from_is_err_and c.from_residual-in_err-check_reply.result c.from_residual-in_err-check_reply.ensures.1 in
    rw (p.1, p.2) (λ before shows.
    let matched : IsMatched before m c.args.self.now arm.head w = record {
      shows = shows;
      head_is = is;
      reply = c.if-head-eq0.false;
      found = found_again (waiting_for c.args.self.now arm.head.unique) c.in-Some.waiting.now c.message-message.result (sym c.waiting_for.ensures.found ∙ ap (option_map (λ (w : Bor Waiting). waiting_shown w.now)) c.in-Some.is) c.message-message.ensures.request;
      unique = c.message-message.ensures.unique ∙ c.in-Some.ensures.unique;
    } in
    reply_fails before m c.args.self.now arm.head w (reply_shown said.field-0) c.in_err-check_reply.field-0.0 arm.ensures.passes
    (λ zero. let yes = c.is_empty.ensures.1 zero in let no = c.if-is_empty.false in absurd cc) matched one c.in_err-check_reply.ensures.fault)

pub returns-clause-passes :
    goal.returns-clause-passes
returns-clause-passes c =
    let m = message c.args.packet.now in
    let arm = c.in_ok-head in
    let w = asked_shown c.in-Some.waiting.now.at c.message-message.result in
    let said = c.in_ok-reply_body in
    let is : IsOnlyHead m arm.head = record { is = (c.requires.direction, arm.ensures.found); only = arm.ensures.only } in
    let one : IsOnlyReply m w.request (reply_shown said.field-0) = record { found = said.ensures.found; only = said.ensures.only } in
    λ before shows.
    let matched : IsMatched before m c.args.self.now arm.head w = record {
      shows = shows;
      head_is = is;
      reply = c.if-head-eq0.false;
      found = found_again (waiting_for c.args.self.now arm.head.unique) c.in-Some.waiting.now c.message-message.result (sym c.waiting_for.ensures.found ∙ ap (option_map (λ (w : Bor Waiting). waiting_shown w.now)) c.in-Some.is) c.message-message.ensures.request;
      unique = c.message-message.ensures.unique ∙ c.in-Some.ensures.unique;
    } in
    reply_passes before m c.args.self.now arm.head w (reply_shown said.field-0) arm.ensures.passes
    (λ zero. let yes = c.is_empty.ensures.1 zero in let no = c.if-is_empty.false in absurd cc) matched one c.in_ok-check_reply.ensures.ok

pub returns-clause-shows :
    goal.returns-clause-shows
returns-clause-shows c =
    let m = message c.args.packet.now in
    let arm = c.in_ok-head in
    let w = asked_shown c.in-Some.waiting.now.at c.message-message.result in
    let said = c.in_ok-reply_body in
    let is : IsOnlyHead m arm.head = record { is = (c.requires.direction, arm.ensures.found); only = arm.ensures.only } in
    let one : IsOnlyReply m w.request (reply_shown said.field-0) = record { found = said.ensures.found; only = said.ensures.only } in
    λ before shows.
    let matched : IsMatched before m c.args.self.now arm.head w = record {
      shows = shows;
      head_is = is;
      reply = c.if-head-eq0.false;
      found = found_again (waiting_for c.args.self.now arm.head.unique) c.in-Some.waiting.now c.message-message.result (sym c.waiting_for.ensures.found ∙ ap (option_map (λ (w : Bor Waiting). waiting_shown w.now)) c.in-Some.is) c.message-message.ensures.request;
      unique = c.message-message.ensures.unique ∙ c.in-Some.ensures.unique;
    } in
    shows_answered before m c.args.self.now _ arm.head w (reply_shown said.field-0) matched said.ensures.found c.in_ok-check_reply.ensures.ok.0
    (subst (λ (flags : Option ℕ). NotesReply c.args.self.now c.note_reply-at.new.self arm.head.unique flags) c.agreed_flags-flags.ensures c.note_reply-at.ensures.noted)
    (reply_passes before m c.args.self.now arm.head w (reply_shown said.field-0) arm.ensures.passes
    (λ zero. let yes = c.is_empty.ensures.1 zero in let no = c.if-is_empty.false in absurd cc) matched one c.in_ok-check_reply.ensures.ok)

pub returns-clause-event :
    goal.returns-clause-event
returns-clause-event c =
    let m = message c.args.packet.now in
    let arm = c.in_ok-head in
    let w = asked_shown c.in-Some.waiting.now.at c.message-message.result in
    let said = c.in_ok-reply_body in
    let is : IsOnlyHead m arm.head = record { is = (c.requires.direction, arm.ensures.found); only = arm.ensures.only } in
    λ before shows.
    let matched : IsMatched before m c.args.self.now arm.head w = record {
      shows = shows;
      head_is = is;
      reply = c.if-head-eq0.false;
      found = found_again (waiting_for c.args.self.now arm.head.unique) c.in-Some.waiting.now c.message-message.result (sym c.waiting_for.ensures.found ∙ ap (option_map (λ (w : Bor Waiting). waiting_shown w.now)) c.in-Some.is) c.message-message.ensures.request;
      unique = c.message-message.ensures.unique ∙ c.in-Some.ensures.unique;
    } in
    (c.note_reply-at.ensures.at ∙ shows.counted, matched_answers before m c.args.self.now arm.head w matched, said.ensures.found)
