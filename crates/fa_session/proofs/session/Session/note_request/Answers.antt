use Rattle.std.proofs.Common.{◌≡◌, ℕ, Some, None, cond, refl, sym, subst, ◌∙◌}
use Rattle.std.specs.Prelude.{nat_eq}
use Rattle.std.specs.Map.{lookup}
use Rattle.std.proofs.lemmas.Result.{err_from_is_err_and}
use Rattle.fa_bodies.specs.Requests.{PlainRequest, request_shown}
use Rattle.fa_session.specs.Plain.{PlainSession, PlainWaiting}
use Rattle.fa_session.specs.parts.Steps.{NotesRequest}
use Rattle.fa_session.proofs.WaitLemmas.{waits_one}
use Rattle.fa_session.proofs.TableLemmas.{asked_shown, none_shown}
use Rattle.fa_session.proofs.session.Session.note_request.Goals as goal

-- a request that waits, with the number of its message
abbrev numbered : ℕ → PlainRequest → PlainWaiting
numbered at r = record { at = at; request = r }

pub returns-in_err-insert-clause-memory : goal.returns-in_err-insert-clause-memory
returns-in_err-insert-clause-memory c =
    let p = err_from_is_err_and c.from_residual.result c.from_residual.ensures.1 in
    let none = subst (λ (u : ℕ). lookup (nat_eq u) c.self.inside.waiting ≡ None) c.new-waiting.ensures.unique c.in_err-insert.ensures.memory.1 in
    rw p.1 (p.2 ∙ c.in_err-insert.ensures.memory.0, (c.if-not-may_be_answered.ensures.0 refl, none_shown c.self.inside c.args.self.now c.args.message.now.request.unique c.self.view_is none))

pub returns-clause-noted : goal.returns-clause-noted
returns-clause-noted c =
    let waiting = c.new-waiting.result in
    let request : waiting.said.0 ≡ request_shown c.args.message.now.request =
    waits_one waiting.bytes.now waiting.unique waiting.said c.args.message.now.bytes.now (request_shown c.args.message.now.request) c.new-waiting.ensures.bytes c.args.message.now.read in
    let at : waiting.at ≡ c.self.inside.messages = c.new-waiting.ensures.at in
    let shown : numbered waiting.at waiting.said.0 ≡ numbered c.self.inside.messages (request_shown c.args.message.now.request) = cc in
    let inserted = subst (λ (u : ℕ). (unique : ℕ) → lookup (nat_eq unique) c.insert.new.self ≡ cond (nat_eq u unique) (Some waiting) (lookup (nat_eq unique) c.self.inside.waiting)) c.new-waiting.ensures.unique c.in_ok-insert.ensures.inserted in
    subst (λ (s : PlainSession). NotesRequest c.args.self.now s (request_shown c.args.message.now.request)) (sym c.next_number-2.ensures.counted)
    (asked_shown c.self.inside c.args.self.now _ _ _ c.insert.new.self c.self.view_is (c.if-not-may_be_answered.ensures.0 refl) shown refl refl refl inserted)
