-- The checks of a message after the messages before it, each with its code, and which messages they allow. Their codes
-- and their order are this profile's.
use Rattle.std.specs.Prelude.{◌≡◌, ◌≢◌, ℕ, List, [], ◌∷◌, ◌++◌, slice_get, take, Some}
use Rattle.fa_capture.specs.declared.codes.TheConstants.{FIRST_NOT_INIT, SECOND_INIT, BEFORE_INIT_ANSWERED, INIT_REFUSED, VERSION, NEGOTIATED_FLAGS, UNIQUE_IN_USE, NO_REQUEST_WAITS, LEFT_OUT_SUCCEEDED, OPEN_WITHOUT_HANDLE, UNIQUE_ZERO, REPLY_BODY}
use Rattle.fa_capture.specs.declared.packet.Direction.{Direction}
use Rattle.fa_capture.specs.declared.packet.Direction.TheVariants.{ToServer, FromServer}
use Rattle.fa_capture.specs.Checks.{AllHold, checks_of}
use Rattle.fa_capture.specs.Message.{Message}
use Rattle.fa_bodies.specs.Requests.{PlainRequest, request_checks}
use Rattle.fa_bodies.specs.Replies.{PlainReply, IsReply, reply_head_checks}
use Rattle.fa_session.specs.Answers.{IsRequestMessage, IsReplyMessage, Answers}
use Rattle.fa_session.specs.Rules.{IsInit, IsInitAnswered, IsUniqueFree, IsInitAccepted, IsVersionRight, AreFlagsRight, IsLeftOutRefused, IsOpenByMessage}

-- if the message is a request, this holds of it
abbrev pub ForRequest : Message → (PlainRequest → Type 0) → Type 0
ForRequest m Such = (r : PlainRequest) → IsRequestMessage m r → Such r

-- if the message answers a request, this holds of that request
abbrev pub ForAnswered : List Message → Message → (PlainRequest → Type 0) → Type 0
ForAnswered before m Such = (p : ℕ) (r : PlainRequest) → Answers before m p r → Such r

-- if the message answers a request and is a reply to it, this holds of the two
abbrev pub ForReply : List Message → Message → (PlainRequest → PlainReply → Type 0) → Type 0
ForReply before m Such =
    (p : ℕ) (r : PlainRequest) (reply : PlainReply) → Answers before m p r → IsReply r m.bytes reply → Such r reply

-- The rules of a request after these messages, in their order: its unique is not 0; the first message is INIT; only the
-- first one is; any other request comes after INIT's answer; and its unique is free.
abbrev pub request_rules : List Message → List (ℕ × (PlainRequest → Type 0))
request_rules before =
    (UNIQUE_ZERO, λ r. r.unique ≢ 0)
    ∷ (FIRST_NOT_INIT, λ r. before ≡ [] → IsInit r.body)
    ∷ (SECOND_INIT, λ r. IsInit r.body → before ≡ [])
    ∷ (BEFORE_INIT_ANSWERED, λ r. (IsInit r.body → ⊥) → IsInitAnswered before)
    ∷ (UNIQUE_IN_USE, λ r. IsUniqueFree before r)
    ∷ []

-- The rules of a request and the reply to it, in their order.
abbrev pub reply_rules : List (ℕ × (PlainRequest → PlainReply → Type 0))
reply_rules =
    (INIT_REFUSED, IsInitAccepted)
    ∷ (VERSION, λ r reply. IsVersionRight r.body reply)
    ∷ (NEGOTIATED_FLAGS, λ r reply. AreFlagsRight r.body reply)
    ∷ (LEFT_OUT_SUCCEEDED, IsLeftOutRefused)
    ∷ (OPEN_WITHOUT_HANDLE, λ r reply. IsOpenByMessage r.body reply)
    ∷ []

-- The checks of which request a message from the server answers, in their order: some message came before; a reply
-- answers a request; and it is a reply to that request. A notification answers none.
abbrev pub answer_checks : List Message → Message → List (ℕ × Type 0)
answer_checks before m =
    (FIRST_NOT_INIT, before ≢ [])
    ∷ (NO_REQUEST_WAITS, (unique : ℕ) → IsReplyMessage m unique → (p : ℕ) × (r : PlainRequest) × Answers before m p r)
    ∷ (REPLY_BODY, ForAnswered before m (λ r. (reply : PlainReply) × IsReply r m.bytes reply))
    ∷ []

-- the checks of a message by its direction, after these messages
abbrev pub checks_by : Direction → List Message → Message → List (ℕ × Type 0)
checks_by ToServer before m = request_checks m.bytes ++ checks_of (ForRequest m) (request_rules before)
checks_by FromServer before m =
    reply_head_checks m.bytes ++ answer_checks before m ++ checks_of (ForReply before m) reply_rules

-- The session's checks of a message after these messages, in their order, those of the message grammar among them. The
-- direction alone says how it is read.
abbrev pub session_checks : List Message → Message → List (ℕ × Type 0)
session_checks before m = checks_by m.direction before m

-- the session allows the message after these messages
abbrev pub IsAllowed : List Message → Message → Type 0
IsAllowed before m = AllHold (session_checks before m)

-- each of these messages is allowed after those before it
abbrev pub EachAllowed : List Message → Type 0
EachAllowed c = (i : ℕ) (m : Message) → slice_get c i ≡ Some m → IsAllowed (take i c) m
