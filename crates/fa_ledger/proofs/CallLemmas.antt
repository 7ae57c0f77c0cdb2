-- Messages have one list of calls at most.
use Rattle.std.proofs.Common.{◌≡◌, ℕ, ◌<◌, Bool, List, [], ◌∷◌, length, take, get_or, Option, Some, None, refl, sym, ap, subst, ◌∙◌, arith}
use Rattle.std.specs.Prelude.{◌↔◌, slice_get, map, option_map, IsTrue, All, Contains}
use Rattle.std.proofs.lemmas.List.{length-map}
use Rattle.std.proofs.lemmas.Option.{slice_get_within, slice_get-map, slice_get-get_or, same_Some}
use Rattle.fa_bodies.specs.Requests.{PlainRequest}
use Rattle.fa_bodies.specs.Replies.{PlainReply}
use Rattle.fa_capture.specs.Message.{Message}
use Rattle.fa_capture.proofs.CallerLemmas.{rising_is_one}
use Rattle.fa_session.specs.Answers.{AnswersAt}
use Rattle.fa_session.specs.Events.{PlainEvent}
use Rattle.fa_session.specs.Events.PlainEvent.{Asked, Answered}
use Rattle.fa_session.proofs.CallerLemmas.{answered_once}
use Rattle.fa_ledger.specs.declared.call.Listing.{Listing}
use Rattle.fa_ledger.specs.declared.key.Key.{Key}
use Rattle.fa_ledger.specs.declared.name.NodeName.{NodeName}
use Rattle.fa_ledger.specs.Events.{AreEvents}
use Rattle.fa_ledger.specs.Keys.{key_used}
use Rattle.fa_ledger.specs.Handles.{IsDirect}
use Rattle.fa_ledger.specs.Listings.{IsListingIfAny}
use Rattle.fa_ledger.specs.Calls.{PlainAnswer, PlainCall, IsHandleUsed, IsMark, IsAskedCall, IsAnswerOf, HasAnswer, IsCall, AreCallsOf, Truncates, OpensAnew}
use Rattle.fa_ledger.specs.Operations.{PlainOperation}
use Rattle.fa_ledger.specs.Laws.{CallsAreOne}
use Rattle.fa_ledger.proofs.EventLemmas.{element_at, same_places, events_are_one}
use Rattle.fa_ledger.proofs.HandleLemmas.{handle_is_one, same_mark}
use Rattle.fa_ledger.proofs.ListedLemmas.{listing_is_one}

-- ---- options

same_some : {X : Type 0} (a b : Option X) → option_map (λ x. Some x) a ≡ option_map (λ x. Some x) b → a ≡ b
same_some None None e = refl
same_some None (Some y) e = absurd cc
same_some (Some x) None e = absurd cc
same_some (Some x) (Some y) e = same_Some (Some x) (Some y) e

same_somes : {X : Type 0} (xs ys : List X) → map (λ x. Some x) xs ≡ map (λ x. Some x) ys → xs ≡ ys
same_somes [] [] e = refl
same_somes [] (y ∷ ys) e = absurd cc
same_somes (x ∷ xs) [] e = absurd cc
same_somes (x ∷ xs) (y ∷ ys) e =
    let heads : x ≡ y = cc in
    let tails : xs ≡ ys = same_somes xs ys (let parts : map (λ z. Some z) xs ≡ map (λ z. Some z) ys = cc in parts) in
    cc

-- ---- handles

used_is_one : (es : List PlainEvent) (k : Option Key) (x y : Option ℕ) → IsHandleUsed es k x → IsHandleUsed es k y → x ≡ y
used_is_one es None x y is too = is ∙ sym too
used_is_one es (Some key) x y is too =
    is.1 ∙ ap (λ n. Some n) (handle_is_one es key is.0 too.0 is.2 too.2) ∙ sym too.1

mark_is_one : (Such : Key → Type 0) (k : Option Key) (m n : Bool) → IsMark Such k m → IsMark Such k n → m ≡ n
mark_is_one Such None m n is too = is ∙ sym too
mark_is_one Such (Some key) m n is too = same_mark m n (Such key) is too

-- ---- answers

-- an event that is an answer answers
pub answers_at : (c : List Message) (es : List PlainEvent) → AreEvents c es → (q at p : ℕ) (r : PlainRequest) (reply : PlainReply) → slice_get es q ≡ Some (Answered at p r reply) → AnswersAt c q p r
answers_at c es are q at p r reply there =
    let message = element_at c q (let within = slice_get_within es q (Answered at p r reply) there in omega (arith, within, are.counted)) in
    let event = are.each q message.0 (Answered at p r reply) message.1 there in
    (message.0, message.1, event.1)

same_answer : (a b : PlainAnswer) → a.at ≡ b.at → a.given ≡ b.given → a.opens ≡ b.opens → a ≡ b
same_answer a b ats givens opens =
    let made : ℕ → List NodeName → Bool → PlainAnswer = λ n g o. record { at = n; given = g; opens = o } in
    let whole : made a.at a.given a.opens ≡ made b.at b.given b.opens = rw (ats, givens, opens) refl in
    whole

answer_is_one : (c : List Message) (es : List PlainEvent) → AreEvents c es → (a b : PlainCall) → a.asked ≡ b.asked → (r s : PlainRequest) → r ≡ s
    → (x y : PlainAnswer) → IsAnswerOf es r a x → IsAnswerOf es s b y → (a.operation ≡ b.operation) × (x ≡ y)
answer_is_one c es are a b asked r s requests x y is too =
    let first = answers_at c es are x.at x.at a.asked r is.reply is.there in
    let second = answers_at c es are y.at y.at b.asked s too.reply too.there in
    let moved : AnswersAt c y.at a.asked s = subst (λ p. AnswersAt c y.at p s) (sym asked) second in
    let ats : x.at ≡ y.at = answered_once c x.at y.at a.asked r s first moved in
    let here : slice_get es y.at ≡ Some (Answered x.at a.asked r is.reply) = subst (λ k. slice_get es k ≡ Some (Answered x.at a.asked r is.reply)) ats is.there in
    let events : Some (Answered x.at a.asked r is.reply) ≡ Some (Answered y.at b.asked s too.reply) = sym here ∙ too.there in
    let replies : is.reply ≡ too.reply = cc in
    let done : a.operation ≡ b.operation = same_Some a.operation b.operation (sym is.does ∙ (rw (requests, replies) refl) ∙ too.does) in
    let one : map (λ n. Some n) x.given ≡ map (λ n. Some n) y.given = sym is.given ∙ (rw (ats, requests, replies) refl) ∙ too.given in
    (done, same_answer x y ats (same_somes x.given y.given one) (same_mark x.opens y.opens (OpensAnew es y.at) (subst (λ k. IsTrue x.opens ↔ OpensAnew es k) ats is.opens) too.opens))

answers_are_one : (c : List Message) (es : List PlainEvent) → AreEvents c es → (a b : PlainCall) → a.asked ≡ b.asked → (r s : PlainRequest) → r ≡ s
    → (x y : Option PlainAnswer) → HasAnswer es r a x → HasAnswer es s b y → (a.operation ≡ b.operation) × (x ≡ y)
answers_are_one c es are a b asked r s requests None None is too =
    (same_Some a.operation b.operation (sym is.does ∙ (rw requests refl) ∙ too.does), refl)
answers_are_one c es are a b asked r s requests None (Some y) is too =
    let there : slice_get es y.at ≡ Some (Answered y.at a.asked r too.reply) = rw (asked, requests) too.there in
    absurd (is.none y.at too.reply there)
answers_are_one c es are a b asked r s requests (Some x) None is too =
    let there : slice_get es x.at ≡ Some (Answered x.at b.asked s is.reply) = rw (← asked, ← requests) is.there in
    absurd (too.none x.at is.reply there)
answers_are_one c es are a b asked r s requests (Some x) (Some y) is too =
    let one = answer_is_one c es are a b asked r s requests x y is too in
    (one.0, ap (λ answer. Some answer) one.1)

-- ---- calls

same_fields : (a b : PlainCall) → a.asked ≡ b.asked → a.operation ≡ b.operation → a.node ≡ b.node → a.other ≡ b.other → a.handle ≡ b.handle → a.direct ≡ b.direct → a.truncates ≡ b.truncates → a.listing ≡ b.listing → a.answer ≡ b.answer → a ≡ b
same_fields a b asked operation node other handle direct truncates listing answer =
    let made : ℕ → PlainOperation → NodeName → Option NodeName → Option ℕ → Bool → Bool → Option Listing → Option PlainAnswer → PlainCall =
    λ n p d o h x t l w. record { asked = n; operation = p; node = d; other = o; handle = h; direct = x; truncates = t; listing = l; answer = w } in
    let whole : made a.asked a.operation a.node a.other a.handle a.direct a.truncates a.listing a.answer ≡ made b.asked b.operation b.node b.other b.handle b.direct b.truncates b.listing b.answer =
    rw (asked, operation, node, other, handle, direct, truncates, listing, answer) refl in
    whole

-- the request of a call is one
pub request_is_one : (es : List PlainEvent) (a b : PlainCall) (is : IsCall es a) (too : IsCall es b) → a.asked ≡ b.asked → is.request ≡ too.request
request_is_one es a b is too asked =
    let here : slice_get es b.asked ≡ Some (Asked a.asked is.request) = subst (λ k. slice_get es k ≡ Some (Asked a.asked is.request)) asked is.there in
    let events : Some (Asked a.asked is.request) ≡ Some (Asked b.asked too.request) = sym here ∙ too.there in
    cc

-- the call of a request is one
pub call_is_one : (c : List Message) (es : List PlainEvent) → AreEvents c es → (a b : PlainCall) → IsCall es a → IsCall es b → a.asked ≡ b.asked → a ≡ b
call_is_one c es are a b is too asked =
    let r = too.request in
    let requests : is.request ≡ too.request = request_is_one es a b is too asked in
    let before = take b.asked es in
    let mine : IsAskedCall (take b.asked es) is.request a = subst (λ k. IsAskedCall (take k es) is.request a) asked is.asked in
    let yours = too.asked in
    let nodes : a.node ≡ b.node = same_Some a.node b.node (sym mine.node ∙ (rw requests refl) ∙ yours.node) in
    let others : a.other ≡ b.other = same_some a.other b.other (sym mine.other ∙ (rw requests refl) ∙ yours.other) in
    let handles : a.handle ≡ b.handle = used_is_one before (key_used before r) a.handle b.handle (subst (λ q. IsHandleUsed before (key_used before q) a.handle) requests mine.handle) yours.handle in
    let directs : a.direct ≡ b.direct = mark_is_one (IsDirect before) (key_used before r) a.direct b.direct (subst (λ q. IsMark (IsDirect before) (key_used before q) a.direct) requests mine.direct) yours.direct in
    let truncations : a.truncates ≡ b.truncates = same_mark a.truncates b.truncates (Truncates before r.body) (subst (λ q. IsTrue a.truncates ↔ Truncates before q.body) requests mine.truncates) yours.truncates in
    let listings : a.listing ≡ b.listing = listing_is_one before r a.listing b.listing (subst (λ q. IsListingIfAny before q a.listing) requests mine.listing) yours.listing in
    let ends = answers_are_one c es are a b asked is.request too.request requests a.answer b.answer is.answered too.answered in
    same_fields a b asked ends.0 nodes others handles directs truncations listings ends.1

-- the numbers of calls
abbrev pub numbers : List PlainCall → List ℕ
numbers calls = map (λ call. call.asked) calls

-- the call that has a number
pub call_with : (calls : List PlainCall) (z : ℕ) → Contains (numbers calls) z → (k : ℕ) × (call : PlainCall) × (slice_get calls k ≡ Some call) × (call.asked ≡ z)
call_with calls z has =
    let below : has.0 < length calls = omega (arith, has.1, length-map calls (λ call. call.asked)) in
    let call = element_at calls has.0 below in
    let there : slice_get (numbers calls) has.0 ≡ Some call.0.asked = slice_get-map (λ x. x.asked) calls has.0 ∙ ap (option_map (λ x. x.asked)) call.1 in
    let got : slice_get (numbers calls) has.0 ≡ Some (get_or (numbers calls) has.0 z) = slice_get-get_or (numbers calls) has.0 z has.1 in
    let same : call.0.asked ≡ z = same_Some call.0.asked z (sym there ∙ got ∙ ap (λ n. Some n) has.2) in
    (has.0, call.0, call.1, same)

-- what stands at a place is a call
pub call_at : (es : List PlainEvent) (calls : List PlainCall) → All (IsCall es) calls → (k : ℕ) (call : PlainCall) → slice_get calls k ≡ Some call → IsCall es call
call_at es calls each k call there =
    let within = slice_get_within calls k call there in
    let got : slice_get calls k ≡ Some (get_or calls k call) = slice_get-get_or calls k call within in
    let same : get_or calls k call ≡ call = same_Some (get_or calls k call) call (sym got ∙ there) in
    subst (IsCall es) same (each k call within)

-- the numbers of one list of calls are those of the other
numbers_kept : (es : List PlainEvent) (calls others : List PlainCall) → AreCallsOf es calls → AreCallsOf es others → (z : ℕ) → Contains (numbers calls) z → Contains (numbers others) z
numbers_kept es calls others are too z has =
    let found = call_with calls z has in
    let call = call_at es calls are.each found.0 found.1 found.2 in
    let there : slice_get es z ≡ Some (Asked z call.request) = subst (λ n. slice_get es n ≡ Some (Asked n call.request)) found.3 call.there in
    too.complete z call.request there call.asked.tree

pub calls_of_are_one : (c : List Message) (es : List PlainEvent) → AreEvents c es → (calls others : List PlainCall) → AreCallsOf es calls → AreCallsOf es others → calls ≡ others
calls_of_are_one c es are calls others is too =
    let same : numbers calls ≡ numbers others = rising_is_one (numbers calls) (numbers others) is.rising too.rising (numbers_kept es calls others is too) (numbers_kept es others calls too is) in
    let long : length calls ≡ length others = sym (length-map calls (λ x. x.asked)) ∙ ap length same ∙ length-map others (λ x. x.asked) in
    same_places calls others long (λ k a b here there.
    let first : slice_get (numbers calls) k ≡ Some a.asked = slice_get-map (λ x. x.asked) calls k ∙ ap (option_map (λ x. x.asked)) here in
    let second : slice_get (numbers others) k ≡ Some b.asked = slice_get-map (λ x. x.asked) others k ∙ ap (option_map (λ x. x.asked)) there in
    let asked : a.asked ≡ b.asked = same_Some a.asked b.asked (sym first ∙ ap (λ ns. slice_get ns k) same ∙ second) in
    call_is_one c es are a b (call_at es calls is.each k a here) (call_at es others too.each k b there) asked)

pub calls_are_one : CallsAreOne
calls_are_one c calls others is too =
    let same : is.events ≡ too.events = events_are_one c is.events too.events is.are too.are in
    calls_of_are_one c too.events too.are calls others (subst (λ es. AreCallsOf es calls) same is.exact) too.exact
