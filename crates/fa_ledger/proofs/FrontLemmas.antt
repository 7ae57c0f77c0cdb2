-- The first messages of a list: what is said of a message among them is said of it there too, and their calls are those of the whole, but
-- for the answers that come later.
use Rattle.std.proofs.Common.{◌≡◌, ℕ, ◌+◌, ◌<◌, ◌≤◌, List, take, Option, None, Some, refl, sym, subst, arith}
use Rattle.std.specs.Prelude.{slice_get, map}
use Rattle.std.proofs.lemmas.List.{length-take, take-take}
use Rattle.std.proofs.lemmas.Option.{slice_get_within}
use Rattle.fa_capture.specs.Message.{Message}
use Rattle.fa_capture.proofs.CallerLemmas.{get_of_front, get_in_front}
use Rattle.fa_bodies.specs.Requests.{PlainRequest}
use Rattle.fa_session.specs.Answers.{IsRequestAt, Answers, AnswersAt}
use Rattle.fa_session.specs.Events.{PlainEvent}
use Rattle.fa_session.specs.Events.PlainEvent.{Answered}
use Rattle.fa_session.proofs.CallerLemmas.{answered_once}
use Rattle.fa_ledger.specs.Events.{AreEvents}
use Rattle.fa_ledger.specs.Names.{name_at}
use Rattle.fa_ledger.specs.Handles.{opening, times_opened, times_closed}
use Rattle.fa_ledger.specs.Passing.{AreGood, Passes}
use Rattle.fa_ledger.specs.Calls.{PlainAnswer, PlainCall, IsAskedCall, OpensAnew, IsAnswerOf, HasAnswer, IsCall}
use Rattle.fa_ledger.specs.Counts.{nodes_given}
use Rattle.fa_ledger.proofs.CallLemmas.{answers_at}
use Rattle.fa_ledger.proofs.OperationLemmas.{lost, lost_made}

-- ---- messages

-- what stands among the first is one of them
front_below : {X : Type 0} (xs : List X) (m i : ℕ) (x : X) → slice_get (take m xs) i ≡ Some x → i < m
front_below xs m i x there = let within = slice_get_within (take m xs) i x there in omega (arith, within, length-take m xs)

-- requests
pub asked_of_front : (c : List Message) (m p : ℕ) (r : PlainRequest) → IsRequestAt (take m c) p r → (p < m) × IsRequestAt c p r
asked_of_front c m p r asked = (front_below c m p asked.0 asked.1, (asked.0, get_of_front c m p asked.0 asked.1, asked.2))

pub asked_in_front : (c : List Message) (m p : ℕ) (r : PlainRequest) → p < m → IsRequestAt c p r → IsRequestAt (take m c) p r
asked_in_front c m p r below asked = (asked.0, get_in_front c m p asked.0 below asked.1, asked.2)

-- answers
pub answers_of_front : (c : List Message) (m q p : ℕ) (r : PlainRequest) → AnswersAt (take m c) q p r → (q < m) × AnswersAt c q p r
answers_of_front c m q p r at =
    let below : q < m = front_below c m q at.0 at.1 in
    (below, (at.0, get_of_front c m q at.0 at.1, subst (λ (before : List Message). Answers before at.0 p r) (take-take q m c (omega (arith, below))) at.2))

pub answers_in_front : (c : List Message) (m q p : ℕ) (r : PlainRequest) → q < m → AnswersAt c q p r → AnswersAt (take m c) q p r
answers_in_front c m q p r below at =
    (at.0, get_in_front c m q at.0 below at.1, subst (λ (before : List Message). Answers before at.0 p r) (sym (take-take q m c (omega (arith, below)))) at.2)

-- the first of good messages are good
pub good_front : (c : List Message) (m : ℕ) → AreGood c → AreGood (take m c)
good_front c m good i x within there =
    let below : i < m = front_below c m i x there in
    let whole : slice_get c i ≡ Some x = get_of_front c m i x there in
    subst (λ (before : List Message). Passes before x) (sym (take-take i m c (omega (arith, below)))) (good i x (slice_get_within c i x whole) whole)

-- ---- calls

-- the call without its answer, and so without what came of it
abbrev pub unanswered : PlainCall → PlainCall
unanswered call = record {
  asked = call.asked;
  operation = lost call.operation;
  node = call.node;
  other = call.other;
  handle = call.handle;
  direct = call.direct;
  truncates = call.truncates;
  listing = call.listing;
  answer = None;
}

-- whether an answer opens a handle anew shows before it
module _ (es : List PlainEvent) (m q : ℕ) (below : q < m) where
  front_same : take q (take m es) ≡ take q es
  front_same = take-take q m es (omega (arith, below))

  opens_in_front : OpensAnew es q → OpensAnew (take m es) q
  opens_in_front (key, out, at, stood) = (
    key,
    out,
    (at.0, get_in_front es m q at.0 below at.1, subst (λ (b : List PlainEvent). opening b at.0 ≡ Some (key, out)) (sym front_same) at.2),
    subst (λ (b : List PlainEvent). times_opened b key ≡ times_closed b key) (sym front_same) stood,
  )

  opens_of_front : OpensAnew (take m es) q → OpensAnew es q
  opens_of_front (key, out, at, stood) = (
    key,
    out,
    (at.0, get_of_front es m q at.0 at.1, subst (λ (b : List PlainEvent). opening b at.0 ≡ Some (key, out)) front_same at.2),
    subst (λ (b : List PlainEvent). times_opened b key ≡ times_closed b key) front_same stood,
  )

-- an answer among the first is one there
answer_in_front : (es : List PlainEvent) (m : ℕ) (r : PlainRequest) (call : PlainCall) (answer : PlainAnswer) → answer.at < m → IsAnswerOf es r call answer → IsAnswerOf (take m es) r call answer
answer_in_front es m r call answer below is = record {
  reply = is.reply;
  there = get_in_front es m answer.at (Answered answer.at call.asked r is.reply) below is.there;
  does = is.does;
  given = subst (λ (b : List PlainEvent). map (λ node. name_at b node) (nodes_given r.body is.reply) ≡ map (λ name. Some name) answer.given)
      (sym (take-take (answer.at + 1) m es (omega (arith, below)))) is.given;
  opens = ((λ does. opens_in_front es m answer.at below (is.opens.0 does)), (λ anew. is.opens.1 (opens_of_front es m answer.at below anew)));
}

module _ (es : List PlainEvent) (m : ℕ) (call : PlainCall) (is : IsCall es call) (below : call.asked < m) where
  asked_same : take call.asked (take m es) ≡ take call.asked es
  asked_same = take-take call.asked m es (omega (arith, below))

  asked_front : IsAskedCall (take call.asked (take m es)) is.request call
  asked_front = subst (λ (b : List PlainEvent). IsAskedCall b is.request call) (sym asked_same) is.asked

  -- a call that is not answered later is one of the first messages
  pub call_in_front : ((answer : PlainAnswer) → call.answer ≡ Some answer → answer.at < m) → IsCall (take m es) call
  call_in_front early = record {
    request = is.request;
    there = get_in_front es m call.asked _ below is.there;
    asked = asked_front;
    answered = by call.answer refl is.answered;
  }
    where
      by : (found : Option PlainAnswer) → call.answer ≡ found → HasAnswer es is.request call found → HasAnswer (take m es) is.request call found
      by None none has = record { none = λ q reply there. has.none q reply (get_of_front es m q (Answered q call.asked is.request reply) there); does = has.does }
      by (Some answer) some has = answer_in_front es m is.request call answer (early answer some) has

  -- one that is answered later is one of them without its answer
  pub call_cut_off : (c : List Message) → AreEvents c es → (answer : PlainAnswer) → call.answer ≡ Some answer → m ≤ answer.at → IsCall (take m es) (unanswered call)
  call_cut_off c are answer some late =
      let asked = asked_front in
      let has : IsAnswerOf es is.request call answer = subst (HasAnswer es is.request call) some is.answered in
      record {
        request = is.request;
        there = get_in_front es m call.asked _ below is.there;
        asked = record {
          tree = asked.tree;
          node = asked.node;
          other = asked.other;
          handle = asked.handle;
          direct = asked.direct;
          truncates = asked.truncates;
          listing = asked.listing;
        };
        answered = record {
          none = λ q reply there.
              let first = answers_at c es are answer.at answer.at call.asked is.request has.reply has.there in
              let whole : slice_get es q ≡ Some (Answered q call.asked is.request reply) = get_of_front es m q (Answered q call.asked is.request reply) there in
              let second = answers_at c es are q q call.asked is.request reply whole in
              let same : answer.at ≡ q = answered_once c answer.at q call.asked is.request is.request first second in
              let early : q < m = front_below es m q (Answered q call.asked is.request reply) there in
              omega (arith, same, early, late);
          does = lost_made is.request.body (Some has.reply) call.operation has.does;
        };
      }
