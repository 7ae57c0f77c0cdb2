-- What holds of answers.
use Rattle.std.specs.Prelude.{◌≡◌, ℕ, List, slice_get, Some}
use Rattle.fa_capture.specs.Message.{Message}
use Rattle.fa_bodies.specs.Requests.{PlainRequest}
use Rattle.fa_session.specs.Answers.{IsReplyMessage, Answers, AnswersAt}
use Rattle.fa_session.specs.Allowed.{EachAllowed}

-- A message answers at most one request.
abbrev pub AnswersOne : Type 0
AnswersOne =
    (before : List Message) (m : Message) (p q : ℕ) (r s : PlainRequest)
    → Answers before m p r → Answers before m q s → (p ≡ q) × (r ≡ s)

-- A request is answered by at most one message.
abbrev pub AnsweredOnce : Type 0
AnsweredOnce =
    (c : List Message) (i j p : ℕ) (r s : PlainRequest) → AnswersAt c i p r → AnswersAt c j p s → i ≡ j

-- Among messages that are all allowed, each reply answers a request.
abbrev pub EachReplyAnswers : Type 0
EachReplyAnswers =
    (c : List Message) → EachAllowed c
    → (i unique : ℕ) (m : Message) → slice_get c i ≡ Some m → IsReplyMessage m unique
    → (p : ℕ) × (r : PlainRequest) × AnswersAt c i p r
