-- What messages say of their calls: tree requests are calls, their answers are those of calls, and what was listed so far for a
-- call is what its messages say.
use Rattle.std.proofs.Common.{◌≡◌, ℕ, ◌<◌, ◌≤◌, List, [], ◌++◌, length, take, Option, Some, None, refl, sym, ap, subst, ◌∙◌, inl, inr, arith, zero, suc}
use Rattle.std.specs.Prelude.{slice_get, map, option_map, option_and_then}
use Rattle.std.specs.Option.{option_map_or}
use Rattle.std.proofs.lemmas.Bool.{cases_lt}
use Rattle.std.proofs.lemmas.List.{length-map}
use Rattle.std.proofs.lemmas.List.Kept.{AllPairs-from_increasing}
use Rattle.std.proofs.lemmas.Option.{slice_get_within, slice_get-map, get_or_from_slice_get, same_Some}
use Rattle.fa_capture.specs.Message.{Message}
use Rattle.fa_capture.proofs.CallerLemmas.{rising_within}
use Rattle.fa_bodies.specs.Requests.{PlainRequest}
use Rattle.fa_bodies.specs.Replies.{PlainReply}
use Rattle.fa_session.specs.Answers.{IsRequestAt, Answers, AnswersAt, IsAnsweredBy, IsUnanswered}
use Rattle.fa_session.specs.Events.{PlainEvent, IsEvent}
use Rattle.fa_session.specs.Events.PlainEvent.{Asked, Answered, Notice}
use Rattle.fa_session.proofs.CallerLemmas.{answers_one, answered_once, answered_asked, one_direction}
use Rattle.fa_ledger.specs.declared.call.Listing.{Listing}
use Rattle.fa_ledger.specs.Events.{AreEvents}
use Rattle.fa_ledger.specs.Calls.{PlainAnswer, PlainCall, IsCall, HasAnswer, AreCalls}
use Rattle.fa_ledger.specs.Listings.{offset_asked, IsListingIfAny}
use Rattle.fa_ledger.specs.Operations.{operation_of}
use Rattle.fa_ledger.specs.SoFar.{listing_so_far, listed_within, entries_answered, call_asked}
use Rattle.fa_ledger.proofs.CallerLemmas.{element_at, call_at, call_with, answered_place, answers_at, message_of, request_event, request_there, notice_no_reply, calls_list_so_far}
use Rattle.fa_check.specs.Orders.{IsTreeRequestAt}
use Rattle.fa_check.specs.Runs.{IsListedFrom, IsCallAt}
use Rattle.fa_check.specs.Replays.{IsCallOf, IsAnswerAt}

-- ---- events of messages

-- an event that asks is a request
asked_message : (c : List Message) (es : List PlainEvent) → AreEvents c es → (p at : ℕ) (r : PlainRequest) → slice_get es p ≡ Some (Asked at r) → IsRequestAt c p r
asked_message c es are p at r there =
    let m = message_of c es are p (Asked at r) there in
    (m.0, m.1, m.2.1)

-- a message that answers a request is the event of an answer
answer_as : (before : List Message) (m : Message) (p : ℕ) (r : PlainRequest) (e : PlainEvent) → Answers before m p r → IsEvent before m e → (at : ℕ) × (reply : PlainReply) × (e ≡ Answered at p r reply)
answer_as before m p r (Asked at s) answers is = absurd (one_direction m is.1.0 answers.reply.1.0)
answer_as before m p r (Answered at q s reply) answers is =
    let same = answers_one before m q p s r is.1 answers in
    let requests : s ≡ r = same.1 in
    let places : q ≡ p = same.0 in
    (at, reply, cc)
answer_as before m p r (Notice at) answers is = absurd (notice_no_reply m r.unique is.1 answers.reply)

answer_event : (c : List Message) (es : List PlainEvent) → AreEvents c es → (q p : ℕ) (r : PlainRequest) → AnswersAt c q p r → (at : ℕ) × (reply : PlainReply) × (slice_get es q ≡ Some (Answered at p r reply))
answer_event c es are q p r answers =
    let within : q < length c = slice_get_within c q answers.0 answers.1 in
    let event = element_at es q (omega (arith, within, are.counted)) in
    let found = answer_as (take q c) answers.0 p r event.0 answers.2 (are.each q answers.0 event.0 answers.1 event.1) in
    (found.0, found.1, event.1 ∙ ap (λ e. Some e) found.2)

-- ---- calls of messages

module _ (c : List Message) (calls : List PlainCall) (are : AreCalls c calls) where
  -- each call is one
  pub call_there : (place : ℕ) (call : PlainCall) → slice_get calls place ≡ Some call → IsCall are.events call
  call_there place call there = call_at are.events calls are.exact.each place call there

  -- a call is a tree request
  pub call_is_tree : (place : ℕ) (call : PlainCall) → slice_get calls place ≡ Some call → IsTreeRequestAt c call.asked
  call_is_tree place call there =
      let is = call_there place call there in
      (is.request, asked_message c are.events are.are call.asked call.asked is.request is.there, is.asked.tree)

  -- and a tree request is a call
  pub tree_is_call : (p : ℕ) → IsTreeRequestAt c p → (place : ℕ) × IsCallOf calls place p
  tree_is_call p tree =
      let there = request_event c are.events are.are p tree.0 tree.1 in
      let found = call_with calls p (are.exact.complete p tree.0 there tree.2) in
      (found.0, (found.1, found.2, found.3))

  -- the request of a call
  call_request : (call : PlainCall) (is : IsCall are.events call) (r : PlainRequest) → IsRequestAt c call.asked r → r ≡ is.request
  call_request call is r asked = sym (request_there are.events call.asked call r is refl (request_event c are.events are.are call.asked r asked))

  -- the operation of a call without an answer
  pub call_undone : (place : ℕ) (call : PlainCall) (r : PlainRequest) → slice_get calls place ≡ Some call → call.answer ≡ None → IsRequestAt c call.asked r → operation_of r.body None ≡ Some call.operation
  call_undone place call r there none asked =
      let is = call_there place call there in
      let has : HasAnswer are.events is.request call None = subst (HasAnswer are.events is.request call) none is.answered in
      ap (λ (x : PlainRequest). operation_of x.body None) (call_request call is r asked) ∙ has.does

  -- the answer of a call answers its request
  pub call_answered : (place : ℕ) (call : PlainCall) (answer : PlainAnswer) → slice_get calls place ≡ Some call → call.answer ≡ Some answer → IsAnsweredBy c call.asked answer.at
  call_answered place call answer there has =
      let is = call_there place call there in
      let of : HasAnswer are.events is.request call (Some answer) = subst (HasAnswer are.events is.request call) has is.answered in
      (is.request, answers_at c are.events are.are answer.at answer.at call.asked is.request of.reply of.there)

  -- a call without an answer is not answered
  pub call_unanswered : (place : ℕ) (call : PlainCall) → slice_get calls place ≡ Some call → call.answer ≡ None → IsUnanswered c call.asked
  call_unanswered place call there none q answered =
      let is = call_there place call there in
      let has : HasAnswer are.events is.request call None = subst (HasAnswer are.events is.request call) none is.answered in
      let event = answer_event c are.events are.are q call.asked answered.0 answered.1 in
      let request : answered.0 ≡ is.request = call_request call is answered.0 (answered_asked c q call.asked answered.0 answered.1) in
      let number : event.0 ≡ q = answered_place c are.events are.are q event.0 call.asked answered.0 event.1 event.2 in
      has.none q event.1 (subst (λ n. slice_get are.events q ≡ Some (Answered n call.asked is.request event.1)) number
      (subst (λ r. slice_get are.events q ≡ Some (Answered event.0 call.asked r event.1)) request event.2))

  -- who answers a call is its answer
  pub answered_call : (place : ℕ) (call : PlainCall) (q : ℕ) → slice_get calls place ≡ Some call → IsAnsweredBy c call.asked q → IsAnswerAt calls place q
  answered_call place call q there answered = by call.answer refl
    where
      by : (answer : Option PlainAnswer) → call.answer ≡ answer → IsAnswerAt calls place q
      by None is = absurd (call_unanswered place call there is q answered)
      by (Some answer) is =
          let first = call_answered place call answer there is in
          (call, answer, there, is, answered_once c answer.at q call.asked first.0 answered.0 first.1 answered.1)

  -- calls stand by rising numbers
  pub asked_rise : (i j : ℕ) (a b : PlainCall) → i < j → slice_get calls i ≡ Some a → slice_get calls j ≡ Some b → a.asked < b.asked
  asked_rise i j a b before first second =
      let numbers = map (λ (call : PlainCall). call.asked) calls in
      let here : slice_get numbers i ≡ Some a.asked = slice_get-map (λ (x : PlainCall). x.asked) calls i ∙ ap (option_map (λ (x : PlainCall). x.asked)) first in
      let there : slice_get numbers j ≡ Some b.asked = slice_get-map (λ (x : PlainCall). x.asked) calls j ∙ ap (option_map (λ (x : PlainCall). x.asked)) second in
      let within : j < length numbers = slice_get_within numbers j b.asked there in
      let rises = AllPairs-from_increasing numbers are.exact.rising i j 0 before within in
      omega (arith, rises, get_or_from_slice_get numbers i a.asked 0 here, get_or_from_slice_get numbers j b.asked 0 there)

  -- calls with the same number stand at one place
  pub one_place : (i j : ℕ) (a b : PlainCall) → slice_get calls i ≡ Some a → slice_get calls j ≡ Some b → a.asked ≡ b.asked → i ≡ j
  one_place i j a b first second same =
      elim (cases_lt i j) [
        | inl below ↦ absurd (let rises = asked_rise i j a b below first second in omega (arith, rises, same))
        | inr far ↦ elim (cases_lt j i) [
          | inl below ↦ absurd (let rises = asked_rise j i b a below second first in omega (arith, rises, same))
          | inr near ↦ omega (arith, far, near)
        ]
      ]

  -- answers with the same number are of one call
  pub one_answered : (i j q : ℕ) → IsAnswerAt calls i q → IsAnswerAt calls j q → i ≡ j
  one_answered i j q first second =
      let one = call_answered i first.0 first.1 first.2 first.3 in
      let two = call_answered j second.0 second.1 second.2 second.3 in
      let here : AnswersAt c q first.0.asked one.0 = subst (λ n. AnswersAt c n first.0.asked one.0) first.4 one.1 in
      let there : AnswersAt c q second.0.asked two.0 = subst (λ n. AnswersAt c n second.0.asked two.0) second.4 two.1 in
      let message : here.0 ≡ there.0 = same_Some here.0 there.0 (sym here.1 ∙ there.1) in
      let same = answers_one (take q c) there.0 first.0.asked second.0.asked one.0 two.0 (subst (λ m. Answers (take q c) m first.0.asked one.0) message here.2) there.2 in
      one_place i j first.0 second.0 first.2 second.2 same.0

  -- a call and its answer are messages
  pub asked_within : (place : ℕ) (call : PlainCall) → slice_get calls place ≡ Some call → call.asked < length c
  asked_within place call there =
      let within = slice_get_within are.events call.asked _ (call_there place call there).there in
      omega (arith, within, are.are.counted)

  pub answer_within : (place q : ℕ) → IsAnswerAt calls place q → q < length c
  answer_within place q answer =
      let answered = call_answered place answer.0 answer.1 answer.2 answer.3 in
      let within = slice_get_within c answer.1.at answered.1.0 answered.1.1 in
      omega (arith, within, answer.4)

  -- there are no more calls than messages
  pub calls_within : length calls ≤ length c
  calls_within =
      let numbers = map (λ (call : PlainCall). call.asked) calls in
      let within : length numbers ≤ length c = rising_within numbers (length c) are.exact.rising (λ z has.
      let found = call_with calls z has in
      let below = asked_within found.0 found.1 found.2 in
      omega (arith, below, found.3)) in
      omega (arith, within, length-map calls (λ (call : PlainCall). call.asked))

  -- ---- what was listed so far

  -- for a call that does not list, nothing was
  unlisted : (place : ℕ) (call : PlainCall) → slice_get calls place ≡ Some call → call.listing ≡ None → listing_so_far calls place ≡ []
  unlisted zero call there none = ap (λ found. option_map_or (λ x. listed_within zero calls x) found []) there
  unlisted (suc place) call there none =
      ap (λ found. option_map_or (λ x. listed_within (suc place) calls x) found []) there
      ∙ ap (λ before. option_map_or (λ b. option_map_or (λ earlier. listed_within place calls earlier ++ take b.1 (entries_answered earlier.operation)) (call_asked calls b.0) []) before [])
      (ap (λ listing. option_and_then (λ l. l.before) listing) none)

  -- for one that does, what its request lists from
  call_lists : (place : ℕ) (call : PlainCall) (is : IsCall are.events call) → slice_get calls place ≡ Some call
      → IsListedFrom (take call.asked are.events) is.request (offset_asked is.request.body) (listing_so_far calls place)
  call_lists place call is there = by call.listing refl
    where
      before : List PlainEvent
      before = take call.asked are.events

      by : (listing : Option Listing) → call.listing ≡ listing → IsListedFrom before is.request (offset_asked is.request.body) (listing_so_far calls place)
      by None has =
          let none : offset_asked is.request.body ≡ None = subst (IsListingIfAny before is.request) has is.asked.listing in
          subst (λ offset. IsListedFrom before is.request offset (listing_so_far calls place)) (sym none) (unlisted place call there has)
      by (Some listing) has =
          let lists : IsListingIfAny before is.request (Some listing) = subst (IsListingIfAny before is.request) has is.asked.listing in
          subst (λ offset. IsListedFrom before is.request offset (listing_so_far calls place)) (sym lists.asks) (
            lists.handle,
            lists.uses,
            (listing.adrift, calls_list_so_far c are.events calls are.are are.exact place call listing there has is.request is.there lists.handle lists.offset lists.uses lists.asks),
          )

  -- the call at a place is that of its message
  pub call_of_message : (place p : ℕ) (call : PlainCall) → slice_get calls place ≡ Some call → call.asked ≡ p → IsCallAt c p call (listing_so_far calls place)
  call_of_message place p call there number =
      let is = call_there place call there in
      record {
        events = are.events;
        are = are.are;
        exact = is;
        number = number;
        listed = subst (λ n. IsListedFrom (take n are.events) is.request (offset_asked is.request.body) (listing_so_far calls place)) number (call_lists place call is there);
      }
