-- One event more: what calls say stays so, and what a request and an answer add to them.
use Rattle.std.proofs.Common.{◌≡◌, ℕ, zero, suc, ◌+◌, ◌<◌, Bool, true, false, List, [], ◌∷◌, ◌++◌, length, take, get_or, Option, Some, None, refl, sym, ap, subst, ◌∙◌, inl, inr, arith}
use Rattle.std.specs.Prelude.{◌↔◌, ◌==◌, if◌then◌else◌, slice_get, map, IsTrue, All, Contains}
use Rattle.std.specs.List.Sorted.{IsStrictlyIncreasing}
use Rattle.std.proofs.lemmas.Bool.{cases_lt}
use Rattle.std.proofs.lemmas.Bool.Decides.{nat_tests}
use Rattle.std.proofs.lemmas.Option.{slice_get_within}
use Rattle.std.proofs.lemmas.List.{take_all, length-append, length-take, map-append, get_or_append_left, get_or_push}
use Rattle.std.proofs.lemmas.List.Elements.{All-append, All-map, Contains-append_left, Contains-append_right, Contains-get_or}
use Rattle.fa_bodies.specs.Requests.{PlainRequest}
use Rattle.fa_bodies.specs.Replies.{PlainReply}
use Rattle.fa_capture.specs.Message.{Message}
use Rattle.fa_capture.proofs.CallerLemmas.{get_kept, get_back, get_last, get_cases, take_before, take_all_before}
use Rattle.fa_session.specs.Answers.{IsRequestAt}
use Rattle.fa_session.specs.Events.{PlainEvent, IsEvent}
use Rattle.fa_session.specs.Events.PlainEvent.{Asked, Answered}
use Rattle.fa_session.proofs.CallerLemmas.{answered_now, answered_still, answer_after, answered_once}
use Rattle.fa_ledger.specs.Events.{AreEvents}
use Rattle.fa_ledger.specs.Kinds.{IsTreeRequest}
use Rattle.fa_ledger.specs.Names.{name_at}
use Rattle.fa_ledger.specs.Handles.{opening, times_opened, times_closed}
use Rattle.fa_ledger.specs.Calls.{PlainAnswer, PlainCall, IsAskedCall, OpensAnew, IsAnswerOf, HasAnswer, IsCall, AreCallsOf}
use Rattle.fa_ledger.specs.Counts.{nodes_given}
use Rattle.fa_ledger.specs.Operations.{PlainOperation, operation_of}
use Rattle.fa_ledger.specs.parts.Steps.{answered_by, with_answer}
use Rattle.fa_ledger.proofs.CallLemmas.{numbers, answers_at, call_at, call_with}
use Rattle.fa_ledger.proofs.EventLemmas.{element_at, event_is_one}

-- ---- events

-- the events of one message more
pub events_more : (c : List Message) (m : Message) (es : List PlainEvent) (e : PlainEvent) → AreEvents c es → IsEvent c m e → AreEvents (c ++ m ∷ []) (es ++ e ∷ [])
events_more c m es e are is = record {
  counted = omega (arith, length-append es (e ∷ []), length-append c (m ∷ []), are.counted);
  each = λ i x f message event.
      elim (get_cases c m i x message) [
        | inl below ↦
            let within : i < length es = omega (arith, below, are.counted) in
            let before : take i (c ++ m ∷ []) ≡ take i c = take_before c m i (omega (arith, below)) in
            subst (λ b. IsEvent b x f) (sym before) (are.each i x f (get_back c (m ∷ []) i x below message) (get_back es (e ∷ []) i f within event))
        | inr now ↦ elim (get_cases es e i f event) [
          | inl within ↦ absurd (omega (arith, within, now.0, are.counted))
          | inr last ↦
              let before : take i (c ++ m ∷ []) ≡ c = ap (λ k. take k (c ++ m ∷ [])) now.0 ∙ take_all_before c m in
              let here : IsEvent c x f = subst (λ y. IsEvent c y f) (sym now.1) (subst (λ g. IsEvent c m g) (sym last.1) is) in
              subst (λ b. IsEvent b x f) (sym before) here
        ]
      ];
}

-- the message of an event
pub message_of : (c : List Message) (es : List PlainEvent) → AreEvents c es → (q : ℕ) (e : PlainEvent) → slice_get es q ≡ Some e
    → (m : Message) × (slice_get c q ≡ Some m) × IsEvent (take q c) m e
message_of c es are q e there =
    let message = element_at c q (let within = slice_get_within es q e there in omega (arith, within, are.counted)) in
    (message.0, message.1, are.each q message.0 e message.1 there)

-- so many messages come before an event
before_event : (c : List Message) (es : List PlainEvent) → AreEvents c es → (q : ℕ) (e : PlainEvent) → slice_get es q ≡ Some e → length (take q c) ≡ q
before_event c es are q e there =
    let within = slice_get_within es q e there in
    omega (arith, within, are.counted, length-take q c)

-- an event has the number of its place
pub asked_place : (c : List Message) (es : List PlainEvent) → AreEvents c es → (q at : ℕ) (r : PlainRequest) → slice_get es q ≡ Some (Asked at r) → at ≡ q
asked_place c es are q at r there =
    (message_of c es are q (Asked at r) there).2.0 ∙ before_event c es are q (Asked at r) there

pub answered_place : (c : List Message) (es : List PlainEvent) → AreEvents c es → (q at p : ℕ) (r : PlainRequest) (reply : PlainReply) → slice_get es q ≡ Some (Answered at p r reply) → at ≡ q
answered_place c es are q at p r reply there =
    (message_of c es are q (Answered at p r reply) there).2.0 ∙ before_event c es are q (Answered at p r reply) there

-- an answer comes after its request
pub asked_later : (c : List Message) (es : List PlainEvent) → AreEvents c es → (q at p : ℕ) (r : PlainRequest) (reply : PlainReply) → slice_get es q ≡ Some (Answered at p r reply) → p < q
asked_later c es are q at p r reply there = answer_after c q p r (answers_at c es are q at p r reply there)

-- the event of a request
pub request_event : (c : List Message) (es : List PlainEvent) → AreEvents c es → (p : ℕ) (r : PlainRequest) → IsRequestAt c p r → slice_get es p ≡ Some (Asked p r)
request_event c es are p r asked =
    let within : p < length c = slice_get_within c p asked.0 asked.1 in
    let event = element_at es p (omega (arith, within, are.counted)) in
    let number : p ≡ length (take p c) = omega (arith, within, length-take p c) in
    let same : event.0 ≡ Asked p r = event_is_one (take p c) asked.0 event.0 (Asked p r) (are.each p asked.0 event.0 asked.1 event.1) (number, asked.2) in
    event.1 ∙ ap (λ e. Some e) same

-- what is answered was asked
pub event_asked : (c : List Message) (m : Message) (es : List PlainEvent) → AreEvents c es → (at p : ℕ) (r : PlainRequest) (reply : PlainReply) → IsEvent c m (Answered at p r reply) → slice_get es p ≡ Some (Asked p r)
event_asked c m es are at p r reply is = request_event c es are p r is.1.outstanding.asked

-- what is answered was not answered before
pub event_unanswered : (c : List Message) (m : Message) (es : List PlainEvent) → AreEvents c es → (at p : ℕ) (r : PlainRequest) (reply : PlainReply) → IsEvent c m (Answered at p r reply)
    → (q : ℕ) (s : PlainRequest) (said : PlainReply) → slice_get es q ≡ Some (Answered q p s said) → ⊥
event_unanswered c m es are at p r reply is q s said there =
    let within : q < length es = slice_get_within es q (Answered q p s said) there in
    let first = answered_still c m q p s (answers_at c es are q q p s said there) in
    let second = answered_now c m p r is.1 in
    let same : q ≡ length c = answered_once (c ++ m ∷ []) q (length c) p s r first second in
    omega (arith, within, same, are.counted)

-- ---- one call

-- an earlier event opens a handle anew as it did
opens_kept : (es : List PlainEvent) (e : PlainEvent) (at : ℕ) → at < length es → OpensAnew (es ++ e ∷ []) at ↔ OpensAnew es at
opens_kept es e at within =
    let same : take at (es ++ e ∷ []) ≡ take at es = take_before es e at (omega (arith, within)) in (
      λ opens. (
        opens.0,
        opens.1,
        (opens.2.0, get_back es (e ∷ []) at opens.2.0 within opens.2.1, subst (λ x. opening x opens.2.0 ≡ Some (opens.0, opens.1)) same opens.2.2),
        subst (λ x. times_opened x opens.0 ≡ times_closed x opens.0) same opens.3,
      ),
      λ opens. (
        opens.0,
        opens.1,
        (opens.2.0, get_kept es (e ∷ []) at opens.2.0 opens.2.1, subst (λ x. opening x opens.2.0 ≡ Some (opens.0, opens.1)) (sym same) opens.2.2),
        subst (λ x. times_opened x opens.0 ≡ times_closed x opens.0) (sym same) opens.3,
      ),
    )

-- the answer of a call stays one
answer_kept : (es : List PlainEvent) (e : PlainEvent) (r : PlainRequest) (call : PlainCall) (answer : PlainAnswer) → IsAnswerOf es r call answer → IsAnswerOf (es ++ e ∷ []) r call answer
answer_kept es e r call answer is =
    let within : answer.at < length es = slice_get_within es answer.at _ is.there in
    let same : take (answer.at + 1) (es ++ e ∷ []) ≡ take (answer.at + 1) es = take_before es e (answer.at + 1) (omega (arith, within)) in
    let opens = opens_kept es e answer.at within in
    record {
      reply = is.reply;
      there = get_kept es (e ∷ []) answer.at _ is.there;
      does = is.does;
      given = subst (λ x. map (λ node. name_at x node) (nodes_given r.body is.reply) ≡ map (λ name. Some name) answer.given) (sym same) is.given;
      opens = (λ marked. opens.1 (is.opens.0 marked), λ anew. is.opens.1 (opens.0 anew));
    }

-- a call has its answer, or has none still, if the event is no answer of it
answered_kept : (es : List PlainEvent) (e : PlainEvent) (r : PlainRequest) (call : PlainCall) → ((at : ℕ) (reply : PlainReply) → e ≡ Answered at call.asked r reply → ⊥)
    → (answer : Option PlainAnswer) → HasAnswer es r call answer → HasAnswer (es ++ e ∷ []) r call answer
answered_kept es e r call other None has = record {
  none = λ q reply there. elim (get_cases es e q (Answered q call.asked r reply) there) [
    | inl below ↦ has.none q reply (get_back es (e ∷ []) q (Answered q call.asked r reply) below there)
    | inr now ↦ other q reply (sym now.1)
  ];
  does = has.does;
}
answered_kept es e r call other (Some answer) has = answer_kept es e r call answer has

-- what a call says of its request stays
asked_kept : (es : List PlainEvent) (e : PlainEvent) (call : PlainCall) (is : IsCall es call) → IsAskedCall (take call.asked (es ++ e ∷ [])) is.request call
asked_kept es e call is =
    let within : call.asked < length es = slice_get_within es call.asked _ is.there in
    subst (λ x. IsAskedCall x is.request call) (sym (take_before es e call.asked (omega (arith, within)))) is.asked

-- a call stays one, if the event is no answer of it
pub call_kept : (es : List PlainEvent) (e : PlainEvent) (call : PlainCall) (is : IsCall es call) → ((at : ℕ) (reply : PlainReply) → e ≡ Answered at call.asked is.request reply → ⊥) → IsCall (es ++ e ∷ []) call
call_kept es e call is other = record {
  request = is.request;
  there = get_kept es (e ∷ []) call.asked _ is.there;
  asked = asked_kept es e call is;
  answered = answered_kept es e is.request call other call.answer is.answered;
}

-- what was a call of a request that is answered now is one with the answer, and with what the reply makes of its operation
call_answered : (es : List PlainEvent) (p : ℕ) (r : PlainRequest) (reply : PlainReply) (call : PlainCall) (o : PlainOperation) (answer : PlainAnswer) (is : IsCall es call) → call.asked ≡ p → is.request ≡ r
    → answer.at ≡ length es → operation_of r.body (Some reply) ≡ Some o
    → (map (λ node. name_at (es ++ Answered (length es) p r reply ∷ []) node) (nodes_given r.body reply) ≡ map (λ name. Some name) answer.given)
    → (IsTrue answer.opens ↔ OpensAnew (es ++ Answered (length es) p r reply ∷ []) (length es))
    → IsCall (es ++ Answered (length es) p r reply ∷ []) (answered_by o answer call)
call_answered es p r reply call o answer is asked request at does given opens =
    let e : PlainEvent = Answered (length es) p r reply in
    let more : List PlainEvent = es ++ e ∷ [] in
    let mine = asked_kept es e call is in
    let long : length more ≡ length es + 1 = length-append es (e ∷ []) in
    let whole : take (answer.at + 1) more ≡ more = take_all (answer.at + 1) more (omega (arith, at, long)) in
    record {
      request = is.request;
      there = get_kept es (e ∷ []) call.asked _ is.there;
      asked = record { tree = mine.tree; node = mine.node; other = mine.other; handle = mine.handle; direct = mine.direct; truncates = mine.truncates; listing = mine.listing };
      answered = record {
        reply = reply;
        there = rw (at, asked, request) (get_last es e);
        does = rw request does;
        given = rw (whole, request) given;
        opens = rw at opens;
      };
    }

-- ---- all calls

-- what holds of one thing holds of each in its list
only_one : {X : Type 0} (P : X → Type 0) (x : X) → P x → All P (x ∷ [])
only_one P x is zero d within = is
only_one P x is (suc k) d within = absurd (omega (arith, within))

-- calls are asked by events
numbers_within : (es : List PlainEvent) (calls : List PlainCall) → All (IsCall es) calls → (z : ℕ) → Contains (numbers calls) z → z < length es
numbers_within es calls each z has =
    let found = call_with calls z has in
    let call = call_at es calls each found.0 found.1 found.2 in
    let within : found.1.asked < length es = slice_get_within es found.1.asked _ call.there in
    omega (arith, within, found.3)

-- rising numbers and a larger one rise
rising_more : (xs : List ℕ) (n : ℕ) → IsStrictlyIncreasing xs → ((z : ℕ) → Contains xs z → z < n) → IsStrictlyIncreasing (xs ++ n ∷ [])
rising_more xs n rise below k within =
    let long : length (xs ++ n ∷ []) ≡ length xs + 1 = length-append xs (n ∷ []) in
    let first : k < length xs = omega (arith, within, long) in
    let left : get_or (xs ++ n ∷ []) k 0 ≡ get_or xs k 0 = get_or_append_left xs (n ∷ []) 0 k first in
    elim (cases_lt (k + 1) (length xs)) [
      | inl inside ↦
          let rises : get_or xs k 0 < get_or xs (k + 1) 0 = rise k inside in
          let right : get_or (xs ++ n ∷ []) (k + 1) 0 ≡ get_or xs (k + 1) 0 = get_or_append_left xs (n ∷ []) 0 (k + 1) inside in
          omega (arith, rises, left, right)
      | inr end ↦
          let smaller : get_or xs k 0 < n = below (get_or xs k 0) (Contains-get_or xs k 0 first) in
          let right : get_or (xs ++ n ∷ []) (k + 1) 0 ≡ n = get_or_push xs n 0 (k + 1) (omega (arith, first, end)) in
          omega (arith, smaller, left, right)
    ]

-- calls stay those of the events, if the event is of no tree request
pub calls_kept : (es : List PlainEvent) (e : PlainEvent) (calls : List PlainCall) → AreCallsOf es calls
    → ((p : ℕ) (r : PlainRequest) → e ≡ Asked p r → IsTreeRequest r.body → ⊥)
    → ((at p : ℕ) (r : PlainRequest) (reply : PlainReply) → e ≡ Answered at p r reply → IsTreeRequest r.body → ⊥)
    → AreCallsOf (es ++ e ∷ []) calls
calls_kept es e calls are no_request no_answer = record {
  rising = are.rising;
  each = λ k x within.
      let call = get_or calls k x in
      let is : IsCall es call = are.each k x within in
      call_kept es e call is (λ at reply same. no_answer at call.asked is.request reply same is.asked.tree);
  complete = λ p r there tree.
      elim (get_cases es e p (Asked p r) there) [
        | inl below ↦ are.complete p r (get_back es (e ∷ []) p (Asked p r) below there) tree
        | inr now ↦ absurd (no_request p r (sym now.1) tree)
      ];
}

-- the call of a tree request that is asked now
call_asked : (c : List Message) (es : List PlainEvent) → AreEvents c es → (r : PlainRequest) (call : PlainCall) → call.asked ≡ length es → operation_of r.body None ≡ Some call.operation → call.answer ≡ None → IsAskedCall es r call
    → IsCall (es ++ Asked (length es) r ∷ []) call
call_asked c es are r call asked does answer is =
    let e : PlainEvent = Asked (length es) r in
    let none : (q : ℕ) (reply : PlainReply) → slice_get (es ++ e ∷ []) q ≡ Some (Answered q call.asked r reply) → ⊥ = λ q reply there.
    elim (get_cases es e q (Answered q call.asked r reply) there) [
      | inl below ↦
          let later : call.asked < q = asked_later c es are q q call.asked r reply (get_back es (e ∷ []) q (Answered q call.asked r reply) below there) in
          omega (arith, later, below, asked)
      | inr now ↦ let clash : Answered q call.asked r reply ≡ Asked (length es) r = now.1 in absurd cc
    ] in
    record {
      request = r;
      there = rw asked (get_last es e);
      asked = subst (λ x. IsAskedCall x r call) (sym (ap (λ k. take k (es ++ e ∷ [])) asked ∙ take_all_before es e)) is;
      answered = subst (HasAnswer (es ++ e ∷ []) r call) (sym answer) (record { none = none; does = does });
    }

-- a tree request adds its call
pub calls_asked : (c : List Message) (es : List PlainEvent) → AreEvents c es → (r : PlainRequest) (calls : List PlainCall) (call : PlainCall) → AreCallsOf es calls
    → call.asked ≡ length es → operation_of r.body None ≡ Some call.operation → call.answer ≡ None → IsAskedCall es r call
    → AreCallsOf (es ++ Asked (length es) r ∷ []) (calls ++ call ∷ [])
calls_asked c es are r calls call exact asked does answer is =
    let e : PlainEvent = Asked (length es) r in
    let split : numbers (calls ++ call ∷ []) ≡ numbers calls ++ call.asked ∷ [] = map-append (λ x. x.asked) calls (call ∷ []) in
    let kept : All (IsCall (es ++ e ∷ [])) calls = λ k x within.
    let old = get_or calls k x in
    let is_old : IsCall es old = exact.each k x within in
    call_kept es e old is_old (λ at reply same. let clash : Asked (length es) r ≡ Answered at old.asked is_old.request reply = same in absurd cc) in
    let new : IsCall (es ++ e ∷ []) call = call_asked c es are r call asked does answer is in
    let last : All (IsCall (es ++ e ∷ [])) (call ∷ []) = only_one (IsCall (es ++ e ∷ [])) call new in
    record {
      rising = subst IsStrictlyIncreasing (sym split) (rising_more (numbers calls) call.asked exact.rising (λ z has.
          let within : z < length es = numbers_within es calls exact.each z has in omega (arith, within, asked)));
      each = All-append (IsCall (es ++ e ∷ [])) calls (call ∷ []) kept last;
      complete = λ p s there tree.
          subst (λ ns. Contains ns p) (sym split) (elim (get_cases es e p (Asked p s) there) [
            | inl below ↦ Contains-append_left (numbers calls) (call.asked ∷ []) p (exact.complete p s (get_back es (e ∷ []) p (Asked p s) below there) tree)
            | inr now ↦ Contains-append_right (numbers calls) (call.asked ∷ []) p (0, omega arith, asked ∙ sym now.0)
          ]);
    }

-- a call keeps its number, whether it is this one or not
same_number : (b : Bool) (new call : PlainCall) → new.asked ≡ call.asked → (if b then new else call).asked ≡ call.asked
same_number true new call same = same
same_number false new call same = refl

-- an answer leaves the numbers of the calls
numbers_answered : (calls : List PlainCall) (p : ℕ) (o : PlainOperation) (answer : PlainAnswer) → numbers (with_answer calls p o answer) ≡ numbers calls
numbers_answered [] p o answer = refl
numbers_answered (call ∷ calls) p o answer =
    let first : (if call.asked == p then answered_by o answer call else call).asked ≡ call.asked = same_number (call.asked == p) (answered_by o answer call) call refl in
    let later : numbers (with_answer calls p o answer) ≡ numbers calls = numbers_answered calls p o answer in
    cc

-- what holds of both choices, by the test, holds of the chosen one
of_either : {X : Type 0} (P : X → Type 0) (b : Bool) (x y : X) → (b ≡ true → P x) → (b ≡ false → P y) → P (if b then x else y)
of_either P true x y first second = first refl
of_either P false x y first second = second refl

-- the request of the call that has this number
pub request_there : (es : List PlainEvent) (p : ℕ) (call : PlainCall) (r : PlainRequest) (is : IsCall es call) → call.asked ≡ p → slice_get es p ≡ Some (Asked p r) → is.request ≡ r
request_there es p call r is asked asks =
    let there : slice_get es p ≡ Some (Asked call.asked is.request) = subst (λ n. slice_get es n ≡ Some (Asked call.asked is.request)) asked is.there in
    let events : Some (Asked call.asked is.request) ≡ Some (Asked p r) = sym there ∙ asks in
    cc

-- an answer is put into its call
pub calls_answered : (c : List Message) (m : Message) (es : List PlainEvent) → AreEvents c es → (p : ℕ) (r : PlainRequest) (reply : PlainReply) → IsEvent c m (Answered (length es) p r reply)
    → (calls : List PlainCall) (o : PlainOperation) (answer : PlainAnswer) → AreCallsOf es calls → answer.at ≡ length es → operation_of r.body (Some reply) ≡ Some o
    → (map (λ node. name_at (es ++ Answered (length es) p r reply ∷ []) node) (nodes_given r.body reply) ≡ map (λ name. Some name) answer.given)
    → (IsTrue answer.opens ↔ OpensAnew (es ++ Answered (length es) p r reply ∷ []) (length es))
    → AreCallsOf (es ++ Answered (length es) p r reply ∷ []) (with_answer calls p o answer)
calls_answered c m es are p r reply event calls o answer exact at does given opens =
    let e : PlainEvent = Answered (length es) p r reply in
    let more : List PlainEvent = es ++ e ∷ [] in
    let asks : slice_get es p ≡ Some (Asked p r) = event_asked c m es are (length es) p r reply event in
    let same : numbers (with_answer calls p o answer) ≡ numbers calls = numbers_answered calls p o answer in
    let each : All (λ call. IsCall more (if call.asked == p then answered_by o answer call else call)) calls = λ k x within.
    let call : PlainCall = get_or calls k x in
    let is : IsCall es call = exact.each k x within in
    of_either (IsCall more) (call.asked == p) (answered_by o answer call) call (λ equal.
    let asked : call.asked ≡ p = grind (arith, nat_tests, equal) in
    call_answered es p r reply call o answer is asked (request_there es p call r is asked asks) at does given opens) (λ differs.
    call_kept es e call is (λ bt said_then clash.
    let asked : call.asked ≡ p = cc in
    grind (arith, nat_tests, differs, asked))) in
    record {
      rising = subst IsStrictlyIncreasing (sym same) exact.rising;
      each = All-map (IsCall more) (λ call. (if call.asked == p then answered_by o answer call else call)) calls each;
      complete = λ q s there tree.
          subst (λ ns. Contains ns q) (sym same) (elim (get_cases es e q (Asked q s) there) [
            | inl below ↦ exact.complete q s (get_back es (e ∷ []) q (Asked q s) below there) tree
            | inr now ↦ let clash : Asked q s ≡ Answered (length es) p r reply = now.1 in absurd cc
          ]);
    }

-- ---- the call that is answered

-- a call whose request is not answered has no answer
answer_none : (es : List PlainEvent) (r : PlainRequest) (call : PlainCall) → ((q : ℕ) (said : PlainReply) → slice_get es q ≡ Some (Answered q call.asked r said) → ⊥)
    → (answer : Option PlainAnswer) → HasAnswer es r call answer → answer ≡ None
answer_none es r call unanswered None has = refl
answer_none es r call unanswered (Some answer) has = absurd (unanswered answer.at has.reply has.there)

-- the call of a request that is answered now waits for its answer
pub call_waits : (c : List Message) (m : Message) (es : List PlainEvent) → AreEvents c es → (at p : ℕ) (r : PlainRequest) (reply : PlainReply) → IsEvent c m (Answered at p r reply)
    → (calls : List PlainCall) → AreCallsOf es calls → (k : ℕ) (call : PlainCall) → slice_get calls k ≡ Some call → call.asked ≡ p
    → (call.answer ≡ None) × IsAskedCall (take p es) r call
call_waits c m es are at p r reply event calls exact k call there asked =
    let is : IsCall es call = call_at es calls exact.each k call there in
    let request : is.request ≡ r = request_there es p call r is asked (event_asked c m es are at p r reply event) in
    let unanswered = event_unanswered c m es are at p r reply event in
    let waits : call.answer ≡ None = answer_none es is.request call (λ q said answers.
    unanswered q is.request said (subst (λ n. slice_get es q ≡ Some (Answered q n is.request said)) asked answers)) call.answer is.answered in
    let says : IsAskedCall (take p es) is.request call = subst (λ n. IsAskedCall (take n es) is.request call) asked is.asked in
    (waits, subst (λ s. IsAskedCall (take p es) s call) request says)

-- a tree request that is answered now has a call
pub waiting_call : (c : List Message) (m : Message) (es : List PlainEvent) → AreEvents c es → (at p : ℕ) (r : PlainRequest) (reply : PlainReply) → IsEvent c m (Answered at p r reply)
    → (calls : List PlainCall) → AreCallsOf es calls → IsTreeRequest r.body → (k : ℕ) × (call : PlainCall) × (slice_get calls k ≡ Some call) × (call.asked ≡ p)
waiting_call c m es are at p r reply event calls exact tree =
    call_with calls p (exact.complete p r (event_asked c m es are at p r reply event) tree)
