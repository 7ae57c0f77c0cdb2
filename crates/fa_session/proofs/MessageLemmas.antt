-- What the checks of a message say once it has been read.
use Rattle.std.proofs.Common.{◌≡◌, ◌≢◌, ℕ, List, [], ◌∷◌, ◌++◌, refl, sym, subst, ◌∙◌, inl, inr}
use Rattle.std.specs.Prelude.{None, Some}
use Rattle.std.proofs.lemmas.List.{nil_from_length}
use Rattle.fa_capture.specs.declared.codes.TheConstants.{FIRST_NOT_INIT, NO_REQUEST_WAITS, REPLY_BODY}
use Rattle.fa_capture.specs.declared.packet.Direction.{Direction}
use Rattle.fa_capture.specs.declared.packet.Direction.TheVariants.{ToServer, FromServer}
use Rattle.fa_capture.specs.Checks.{FirstFailure, AllHold, checks_of}
use Rattle.fa_capture.specs.Message.{Message}
use Rattle.fa_bodies.specs.declared.replies.ReplyHead.{ReplyHead}
use Rattle.fa_bodies.specs.Requests.{PlainRequest, MayBeAnswered, request_checks}
use Rattle.fa_bodies.specs.Replies.{PlainReply, IsReply, reply_head_checks, reply_checks}
use Rattle.fa_session.specs.Answers.{IsReplyMessage, Answers}
use Rattle.fa_session.specs.Allowed.{ForRequest, ForAnswered, ForReply, request_rules, reply_rules, checks_by, session_checks, IsAllowed}
use Rattle.fa_session.specs.Plain.{PlainSession, PlainWaiting}
use Rattle.fa_session.specs.Refusals.{IsNewlyOutstanding}
use Rattle.fa_session.specs.Shows.{Shows}
use Rattle.fa_session.specs.parts.Steps.{request_checked, reply_checked, waiting_for}
use Rattle.fa_capture.proofs.CallerLemmas.{fails_first, fails_behind, hold_both, lifted_failure, lifted_hold}
use Rattle.fa_session.proofs.RequestLemmas.{some_came, outstanding_found}
use Rattle.fa_session.proofs.ShowsLemmas.{IsOnlyRequest, IsOnlyHead, IsMatched, head_unique, notice_answers_none, matched_answers, matched_only}

-- the checks of a message by the direction that it has
by_direction : (P : List (ℕ × Type 0) → Type 0) (c : List Message) (m : Message) (d : Direction) → m.direction ≡ d → P (checks_by d c m) → P (session_checks c m)
by_direction P c m d is here = subst (λ (x : Direction). P (checks_by x c m)) (sym is) here

-- ---- requests

-- what holds of the only request that a message is
for_request : (m : Message) (r : PlainRequest) → IsOnlyRequest m r → (Such : PlainRequest → Type 0) → (Such r → ForRequest m Such) × (ForRequest m Such → Such r)
for_request m r request Such = ((λ such other found. subst Such (sym (request.only other found.1)) such), λ every. every r request.is)

-- the checks behind those of the grammar
abbrev behind_request : List Message → Message → List (ℕ × Type 0)
behind_request c m = checks_of (ForRequest m) (request_rules c)

-- a message from the kernel that is no request
pub unread_request : (c : List Message) (m : Message) (code : ℕ) → m.direction ≡ ToServer → FirstFailure (request_checks m.bytes) code → FirstFailure (session_checks c m) code
unread_request c m code to_server fails =
    by_direction (λ checks. FirstFailure checks code) c m ToServer to_server (fails_first (request_checks m.bytes) (behind_request c m) code fails)

-- a request that breaks a rule
pub request_fails : (c : List Message) (m : Message) (r : PlainRequest) (code : ℕ) → IsOnlyRequest m r → AllHold (request_checks m.bytes) → FirstFailure (request_checked c r) code → FirstFailure (session_checks c m) code
request_fails c m r code request read fails =
    by_direction (λ checks. FirstFailure checks code) c m ToServer request.is.0
    (fails_behind (request_checks m.bytes) (behind_request c m) code read
    (lifted_failure (λ (Such : PlainRequest → Type 0). Such r) (ForRequest m) (for_request m r request) (request_rules c) code fails))

-- a request that keeps the rules
pub request_passes : (c : List Message) (m : Message) (r : PlainRequest) → IsOnlyRequest m r → AllHold (request_checks m.bytes) → AllHold (request_checked c r) → IsAllowed c m
request_passes c m r request read hold =
    by_direction AllHold c m ToServer request.is.0
    (hold_both (request_checks m.bytes) (behind_request c m) read
    (lifted_hold (λ (Such : PlainRequest → Type 0). Such r) (ForRequest m) (for_request m r request) (request_rules c) hold))

-- ---- messages from the server

-- the check of a reply's body, and those of what it says
abbrev body_and_said : List Message → Message → List (ℕ × Type 0)
body_and_said c m = (REPLY_BODY, ForAnswered c m (λ r. (reply : PlainReply) × IsReply r m.bytes reply)) ∷ checks_of (ForReply c m) reply_rules

-- some request is answered, if the message is a reply
abbrev AnswersSome : List Message → Message → Type 0
AnswersSome c m = (unique : ℕ) → IsReplyMessage m unique → (p : ℕ) × (r : PlainRequest) × Answers c m p r

from_server : (P : List (ℕ × Type 0) → Type 0) (c : List Message) (m : Message) → m.direction ≡ FromServer
    → P (reply_head_checks m.bytes ++ (FIRST_NOT_INIT, c ≢ []) ∷ (NO_REQUEST_WAITS, AnswersSome c m) ∷ body_and_said c m) → P (session_checks c m)
from_server P c m is here = by_direction P c m FromServer is here

-- a message from the server that begins as no reply does
pub unread_head : (c : List Message) (m : Message) (code : ℕ) → m.direction ≡ FromServer → FirstFailure (reply_head_checks m.bytes) code → FirstFailure (session_checks c m) code
unread_head c m code is fails =
    from_server (λ checks. FirstFailure checks code) c m is
    (fails_first (reply_head_checks m.bytes) ((FIRST_NOT_INIT, c ≢ []) ∷ (NO_REQUEST_WAITS, AnswersSome c m) ∷ body_and_said c m) code fails)

-- a failure behind the checks of the head
behind_head : (c : List Message) (m : Message) (head : ReplyHead) (code : ℕ) → IsOnlyHead m head → AllHold (reply_head_checks m.bytes)
    → FirstFailure ((FIRST_NOT_INIT, c ≢ []) ∷ (NO_REQUEST_WAITS, AnswersSome c m) ∷ body_and_said c m) code → FirstFailure (session_checks c m) code
behind_head c m head code is read fails =
    from_server (λ checks. FirstFailure checks code) c m is.is.0
    (fails_behind (reply_head_checks m.bytes) ((FIRST_NOT_INIT, c ≢ []) ∷ (NO_REQUEST_WAITS, AnswersSome c m) ∷ body_and_said c m) code read fails)

-- a message from the server before any other
pub first_fails : (c : List Message) (m : Message) (s : PlainSession) (head : ReplyHead) → IsOnlyHead m head → AllHold (reply_head_checks m.bytes) → Shows c s → s.messages ≡ 0 → FirstFailure (session_checks c m) FIRST_NOT_INIT
first_fails c m s head is read shows none = behind_head c m head FIRST_NOT_INIT is read (inl ((λ some. some (nil_from_length c (sym shows.counted ∙ none))), refl))

-- a reply for which no request waits
pub none_waits : (c : List Message) (m : Message) (s : PlainSession) (head : ReplyHead) → IsOnlyHead m head → AllHold (reply_head_checks m.bytes) → Shows c s → (s.messages ≡ 0 → ⊥) → (head.unique ≡ 0 → ⊥)
    → waiting_for s head.unique ≡ None → FirstFailure (session_checks c m) NO_REQUEST_WAITS
none_waits c m s head is read shows some reply none =
    behind_head c m head NO_REQUEST_WAITS is read
    (inr (
      some_came c s shows some,
      inl (
        (λ answers.
            let found = answers head.unique (head, is.is, refl, reply) in
            let same : found.1.unique ≡ head.unique = sym (head_unique m head found.1.unique is found.2.reply) in
            let waits : waiting_for s head.unique ≡ Some (record { at = found.0; request = found.1 }) = outstanding_found c s found.0 found.1 head.unique shows found.2.outstanding same in
            absurd cc),
        refl,
      ),
    ))

-- a failure behind the checks of which request is answered
behind_match : (c : List Message) (m : Message) (s : PlainSession) (head : ReplyHead) (w : PlainWaiting) (code : ℕ) → AllHold (reply_head_checks m.bytes) → (s.messages ≡ 0 → ⊥) → IsMatched c m s head w
    → FirstFailure (body_and_said c m) code → FirstFailure (session_checks c m) code
behind_match c m s head w code read some matched fails =
    behind_head c m head code matched.head_is read
    (inr (some_came c s matched.shows some, inr ((λ unique reply. (w.at, w.request, matched_answers c m s head w matched)), fails)))

-- a body that the answered request does not allow
pub body_fails : (c : List Message) (m : Message) (s : PlainSession) (head : ReplyHead) (w : PlainWaiting) (code : ℕ) → AllHold (reply_head_checks m.bytes) → (s.messages ≡ 0 → ⊥) → IsMatched c m s head w
    → FirstFailure (reply_checks w.request m.bytes) code → FirstFailure (session_checks c m) code
body_fails c m s head w code read some matched fails =
    behind_match c m s head w code read some matched
    (elim fails [ inl here ↦ inl ((λ every. here.0 (every w.at w.request (matched_answers c m s head w matched))), here.1) | inr past ↦ absurd past.1 ])

-- what the message says to the request that it answers, and nothing else
pub record IsOnlyReply (m : Message) (r : PlainRequest) (reply : PlainReply) : Type 0 where
  pub found : IsReply r m.bytes reply
  pub only : (other : PlainReply) → IsReply r m.bytes other → other ≡ reply

for_reply : (c : List Message) (m : Message) (s : PlainSession) (head : ReplyHead) (w : PlainWaiting) (reply : PlainReply) → IsMatched c m s head w → IsOnlyReply m w.request reply
    → (Such : PlainRequest → PlainReply → Type 0) → (Such w.request reply → ForReply c m Such) × (ForReply c m Such → Such w.request reply)
for_reply c m s head w reply matched said Such = (
  (λ such p r what answers found.
      let same : r ≡ w.request = (matched_only c m s head w matched p r answers).1 in
      let says : what ≡ reply = said.only what (subst (λ (x : PlainRequest). IsReply x m.bytes what) same found) in
      subst (λ (x : PlainRequest). Such x what) (sym same) (subst (Such w.request) (sym says) such)),
  λ every. every w.at w.request reply (matched_answers c m s head w matched) said.found,
)

-- the message has a body that the answered request allows
for_body : (c : List Message) (m : Message) (s : PlainSession) (head : ReplyHead) (w : PlainWaiting) (reply : PlainReply) → IsMatched c m s head w → IsReply w.request m.bytes reply
    → ForAnswered c m (λ r. (reply : PlainReply) × IsReply r m.bytes reply)
for_body c m s head w reply matched found p r answers =
    subst (λ (x : PlainRequest). (y : PlainReply) × IsReply x m.bytes y) (sym (matched_only c m s head w matched p r answers).1) (reply, found)

-- a reply that breaks a rule
pub reply_fails : (c : List Message) (m : Message) (s : PlainSession) (head : ReplyHead) (w : PlainWaiting) (reply : PlainReply) (code : ℕ) → AllHold (reply_head_checks m.bytes) → (s.messages ≡ 0 → ⊥)
    → IsMatched c m s head w → IsOnlyReply m w.request reply → FirstFailure (reply_checked w.request reply) code → FirstFailure (session_checks c m) code
reply_fails c m s head w reply code read some matched said fails =
    behind_match c m s head w code read some matched
    (inr (
      for_body c m s head w reply matched said.found,
      lifted_failure (λ (Such : PlainRequest → PlainReply → Type 0). Such w.request reply) (ForReply c m) (for_reply c m s head w reply matched said) reply_rules code fails,
    ))

-- a reply that keeps the rules
pub reply_passes : (c : List Message) (m : Message) (s : PlainSession) (head : ReplyHead) (w : PlainWaiting) (reply : PlainReply) → AllHold (reply_head_checks m.bytes) → (s.messages ≡ 0 → ⊥)
    → IsMatched c m s head w → IsOnlyReply m w.request reply → AllHold (reply_checked w.request reply) → IsAllowed c m
reply_passes c m s head w reply read some matched said hold =
    from_server AllHold c m matched.head_is.is.0
    (hold_both (reply_head_checks m.bytes) ((FIRST_NOT_INIT, c ≢ []) ∷ (NO_REQUEST_WAITS, AnswersSome c m) ∷ body_and_said c m) read (
      some_came c s matched.shows some,
      (
        (λ unique reply. (w.at, w.request, matched_answers c m s head w matched)),
        (
          for_body c m s head w reply matched said.found,
          lifted_hold (λ (Such : PlainRequest → PlainReply → Type 0). Such w.request reply) (ForReply c m) (for_reply c m s head w reply matched said) reply_rules hold,
        ),
      ),
    ))

-- rules of a reply to a request, where none is answered
none_said : (c : List Message) (m : Message) → ((p : ℕ) (r : PlainRequest) → Answers c m p r → ⊥) → (rules : List (ℕ × (PlainRequest → PlainReply → Type 0))) → AllHold (checks_of (ForReply c m) rules)
none_said c m none [] = tt
none_said c m none (rule ∷ rules) = ((λ p r reply answers is. absurd (none p r answers)), none_said c m none rules)

-- a notification
pub notice_passes : (c : List Message) (m : Message) (s : PlainSession) (head : ReplyHead) → IsOnlyHead m head → AllHold (reply_head_checks m.bytes) → Shows c s → (s.messages ≡ 0 → ⊥) → head.unique ≡ 0 → IsAllowed c m
notice_passes c m s head is read shows some zero =
    let none : (p : ℕ) (r : PlainRequest) → Answers c m p r → ⊥ = notice_answers_none c m head is zero in
    from_server AllHold c m is.is.0
    (hold_both (reply_head_checks m.bytes) ((FIRST_NOT_INIT, c ≢ []) ∷ (NO_REQUEST_WAITS, AnswersSome c m) ∷ body_and_said c m) read (
      some_came c s shows some,
      (
        (λ unique reply. absurd (reply.3 (sym (head_unique m head unique is reply) ∙ zero))),
        ((λ p r answers. absurd (none p r answers)), none_said c m none reply_rules),
      ),
    ))

-- want of memory for a request that keeps the rules and may be answered
pub newly_outstanding : (c : List Message) (m : Message) (s : PlainSession) (r : PlainRequest) → IsOnlyRequest m r → Shows c s → MayBeAnswered r.body → waiting_for s r.unique ≡ None → IsNewlyOutstanding c m
newly_outstanding c m s r request shows may none = (
  r,
  request.is,
  may,
  (λ p waiting outstanding same.
      let found : waiting_for s r.unique ≡ Some (record { at = p; request = waiting }) = outstanding_found c s p waiting r.unique shows outstanding same in
      absurd cc),
)
