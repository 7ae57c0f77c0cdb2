use Rattle.std.proofs.lemmas.Result.{err_from_is_err_and}
use Rattle.fa_capture.specs.Message.{message}
use Rattle.fa_bodies.specs.Requests.{request_shown}
use Rattle.fa_session.proofs.ShowsLemmas.{IsOnlyRequest, shows_asked}
use Rattle.fa_session.proofs.MessageLemmas.{request_fails, request_passes, newly_outstanding}
use Rattle.fa_session.proofs.session.Session.accept_to_server.Goals as goal

pub returns-in_err-check_request-clause-refused :
    goal.returns-in_err-check_request-clause-refused
returns-in_err-check_request-clause-refused c =
    let m = message c.args.packet.now in
    let arm = c.in_ok-request in
    let is : IsOnlyRequest m (request_shown arm.field-0) = record { is = (c.requires.direction, arm.ensures.found); only = arm.ensures.only } in
    let p = err_from_is_err_and c.from_residual-in_err-check_request.result c.from_residual-in_err-check_request.ensures.1 in
    rw (p.1, p.2) (λ before shows.
    request_fails before m (request_shown arm.field-0) c.in_err-check_request.field-0.0 is arm.ensures.passes (c.in_err-check_request.ensures.fault before shows))

pub returns-in_err-at-clause-refused :
    goal.returns-in_err-at-clause-refused
returns-in_err-at-clause-refused c =
    let m = message c.args.packet.now in
    let arm = c.in_ok-request in
    let is : IsOnlyRequest m (request_shown arm.field-0) = record { is = (c.requires.direction, arm.ensures.found); only = arm.ensures.only } in
    let wanted = c.in_err-at.ensures.memory in
    let p = err_from_is_err_and c.from_residual-in_err-at.result c.from_residual-in_err-at.ensures.1 in
    rw (p.1, p.2, wanted.0) (λ before shows. (
      request_passes before m (request_shown arm.field-0) is arm.ensures.passes (c.in_ok-check_request.ensures.ok before shows),
      newly_outstanding before m c.args.self.now (request_shown arm.field-0) is shows wanted.1.0 wanted.1.1,
    ))

pub returns-clause-passes : goal.returns-clause-passes
returns-clause-passes c =
    let m = message c.args.packet.now in
    let arm = c.in_ok-request in
    let is : IsOnlyRequest m (request_shown arm.field-0) = record { is = (c.requires.direction, arm.ensures.found); only = arm.ensures.only } in
    λ before shows. request_passes before m (request_shown arm.field-0) is arm.ensures.passes (c.in_ok-check_request.ensures.ok before shows)

pub returns-clause-shows : goal.returns-clause-shows
returns-clause-shows c =
    let m = message c.args.packet.now in
    let arm = c.in_ok-request in
    let is : IsOnlyRequest m (request_shown arm.field-0) = record { is = (c.requires.direction, arm.ensures.found); only = arm.ensures.only } in
    λ before shows.
    let hold = c.in_ok-check_request.ensures.ok before shows in
    shows_asked before m c.args.self.now c.note_request.new.self (request_shown arm.field-0) shows c.in_ok-at.ensures.noted is hold
    (request_passes before m (request_shown arm.field-0) is arm.ensures.passes hold)
