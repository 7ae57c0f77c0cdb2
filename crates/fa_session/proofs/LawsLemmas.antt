-- What holds of answers: a message answers at most one request, a request is answered by at most one message, and
-- among messages that are allowed each reply answers a request.
use Rattle.std.proofs.Common.{◌≡◌, ℕ, ◌<◌, List, ◌++◌, length, take, Some, sym, ap, subst, ◌∙◌, inl, inr, arith}
use Rattle.std.specs.Prelude.{slice_get}
use Rattle.std.proofs.lemmas.Bool.{cases_lt}
use Rattle.std.proofs.lemmas.List.{length-take}
use Rattle.std.proofs.lemmas.Option.{slice_get_within}
use Rattle.fa_capture.specs.declared.packet.Direction.{Direction}
use Rattle.fa_capture.specs.Checks.{AllHold, checks_of}
use Rattle.fa_capture.specs.Message.{Message}
use Rattle.fa_capture.proofs.CallerLemmas.{hold_later, get_of_front, get_in_front}
use Rattle.fa_bodies.specs.Laws.{RequestIsOne, ReplyHeadIsOne}
use Rattle.fa_bodies.specs.declared.replies.ReplyHead.{ReplyHead}
use Rattle.fa_bodies.specs.Requests.{PlainRequest, IsRequest}
use Rattle.fa_bodies.specs.Replies.{reply_head_checks}
use Rattle.fa_session.specs.Answers.{IsReplyMessage, IsRequestAt, Answers, AnswersAt}
use Rattle.fa_session.specs.Allowed.{ForReply, reply_rules, answer_checks, checks_by}
use Rattle.fa_session.specs.Laws.{AnswersOne, AnsweredOnce, EachReplyAnswers}

-- one place holds one thing
one_there : {X : Type 0} (xs : List X) (at : ℕ) (x y : X) → slice_get xs at ≡ Some x → slice_get xs at ≡ Some y → x ≡ y
one_there xs at x y one two = cc

-- ---- requests and replies

-- one message is at most one request
pub one_request : RequestIsOne → (c : List Message) (p : ℕ) (r s : PlainRequest) → IsRequestAt c p r → IsRequestAt c p s → r ≡ s
one_request one c p r s asked other =
    let message : other.0 ≡ asked.0 = one_there c p other.0 asked.0 other.1 asked.1 in
    one asked.0.bytes r s asked.2.1 (subst (λ (m : Message). IsRequest m.bytes s) message other.2.1)

-- a reply has one unique
pub one_unique : ReplyHeadIsOne → (m : Message) (a b : ℕ) → IsReplyMessage m a → IsReplyMessage m b → a ≡ b
one_unique one m a b is other =
    sym is.2 ∙ ap (λ (head : ReplyHead). head.unique) (one m.bytes is.0 other.0 is.1.1 other.1.1) ∙ other.2

-- the later one of two requests with one unique is not before an answer of the earlier one
not_later : (before : List Message) (m : Message) (p q : ℕ) (r s : PlainRequest) → r.unique ≡ s.unique → Answers before m p r → Answers before m q s → p < q → ⊥
not_later before m p q r s same answers other later =
    let asked = other.outstanding.asked in
    answers.outstanding.silent q asked.0 later asked.1 (inl (s, asked.2, sym same))

-- a message answers at most one request
pub answers_one_lem : RequestIsOne → ReplyHeadIsOne → AnswersOne
answers_one_lem one_of_bytes one_head before m p q r s answers other =
    let unique : r.unique ≡ s.unique = one_unique one_head m r.unique s.unique answers.reply other.reply in
    elim (cases_lt p q) [
      | inl earlier ↦ absurd (not_later before m p q r s unique answers other earlier)
      | inr not_earlier ↦ elim (cases_lt q p) [
        | inl later ↦ absurd (not_later before m q p s r (sym unique) other answers later)
        | inr not_later ↦
            let same : p ≡ q = omega (arith, not_earlier, not_later) in
            (same, one_request one_of_bytes before p r s answers.outstanding.asked (subst (λ (k : ℕ). IsRequestAt before k s) (sym same) other.outstanding.asked))
      ]
    ]

-- ---- answers

-- the request of an answer is a message of the list
pub answered_asked : (c : List Message) (i p : ℕ) (r : PlainRequest) → AnswersAt c i p r → IsRequestAt c p r
answered_asked c i p r at =
    let asked = at.2.outstanding.asked in
    (asked.0, get_of_front c i p asked.0 asked.1, asked.2)

-- an answer stands after its request
pub answer_after : (c : List Message) (i p : ℕ) (r : PlainRequest) → AnswersAt c i p r → p < i
answer_after c i p r at =
    let asked = at.2.outstanding.asked in
    let within : p < length (take i c) = slice_get_within (take i c) p asked.0 asked.1 in
    omega (arith, within, length-take i c)

-- a request that was answered is not answered again
not_again : (c : List Message) (i j p : ℕ) (r : PlainRequest) → AnswersAt c i p r → AnswersAt c j p r → i < j → ⊥
not_again c i j p r at again later =
    again.2.outstanding.silent i at.0 (answer_after c i p r at) (get_in_front c j i at.0 later at.1) (inr at.2.reply)

-- a request is answered by at most one message
pub answered_once_lem : RequestIsOne → AnsweredOnce
answered_once_lem one_of_bytes c i j p r s at other =
    let same : s ≡ r = one_request one_of_bytes c p s r (answered_asked c j p s other) (answered_asked c i p r at) in
    let again : AnswersAt c j p r = subst (AnswersAt c j p) same other in
    elim (cases_lt i j) [
      | inl earlier ↦ absurd (not_again c i j p r at again earlier)
      | inr not_earlier ↦ elim (cases_lt j i) [
        | inl later ↦ absurd (not_again c j i p r again at later)
        | inr not_later ↦ omega (arith, not_earlier, not_later)
      ]
    ]

-- among messages that are all allowed, each reply answers a request
pub each_reply_answers_lem : EachReplyAnswers
each_reply_answers_lem c allowed i unique m is reply =
    let checks = subst (λ (d : Direction). AllHold (checks_by d (take i c) m)) reply.1.0 (allowed i m is) in
    let answering = hold_later (reply_head_checks m.bytes) (answer_checks (take i c) m ++ checks_of (ForReply (take i c) m) reply_rules) checks in
    let answer = answering.1.0 unique reply in
    (answer.0, answer.1, (m, is, answer.2))
