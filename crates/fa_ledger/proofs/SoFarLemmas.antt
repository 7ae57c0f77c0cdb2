-- What calls say was listed so far for one of them was listed so far for its request: along the calls, from each to the one
-- that it goes on from.
use Rattle.std.proofs.Common.{◌≡◌, ℕ, zero, suc, ◌<◌, ◌≤◌, Bool, true, false, List, [], ◌∷◌, ◌++◌, length, take, get_or, Option, Some, None, refl, sym, ap, subst, ◌∙◌, inl, inr, arith}
use Rattle.std.specs.Prelude.{◌==◌, ◌≢◌, slice_get, option_map, option_and_then}
use Rattle.std.specs.Option.{option_map_or}
use Rattle.std.specs.List.Sorted.{IsStrictlyIncreasing}
use Rattle.std.proofs.lemmas.Bool.{cases_Bool, cases_lt}
use Rattle.std.proofs.lemmas.Bool.Decides.{nat_tests}
use Rattle.std.proofs.lemmas.List.{length-map, length-take, take-take}
use Rattle.std.proofs.lemmas.List.Kept.{AllPairs-from_increasing}
use Rattle.std.proofs.lemmas.Option.{slice_get_within, slice_get-map, get_or_from_slice_get, same_Some}
use Rattle.fa_bodies.specs.Dirents.{PlainDirent}
use Rattle.fa_bodies.specs.Requests.{PlainRequest, PlainBody}
use Rattle.fa_bodies.specs.Requests.PlainBody.{Forget, Readdir, BatchForget, Readdirplus}
use Rattle.fa_bodies.specs.Replies.{IsSuccessBody}
use Rattle.fa_bodies.specs.Replies.PlainReply.{Refused, Listed}
use Rattle.fa_capture.specs.Message.{Message}
use Rattle.fa_capture.proofs.CallerLemmas.{get_of_front}
use Rattle.fa_session.specs.Events.{PlainEvent}
use Rattle.fa_session.specs.Events.PlainEvent.{Asked, Answered}
use Rattle.fa_session.proofs.CallerLemmas.{answered_asked, answered_once}
use Rattle.fa_ledger.specs.declared.call.Listing.{Listing}
use Rattle.fa_ledger.specs.Events.{AreEvents}
use Rattle.fa_ledger.specs.Kinds.{IsTreeRequest}
use Rattle.fa_ledger.specs.Listings.{offset_asked, UsesHandle, Part, ReachesOffset, IsLastPart, IsListedSoFar, GoesOnFrom, IsListing, IsListingIfAny}
use Rattle.fa_ledger.specs.Listings.IsListedSoFar.{anew, unreached, further}
use Rattle.fa_ledger.specs.Calls.{PlainAnswer, PlainCall, HasAnswer, IsCall, AreCallsOf}
use Rattle.fa_ledger.specs.Operations.{operation_of}
use Rattle.fa_ledger.specs.SoFar.{entries_answered, call_asked, before_of, listed_within, listing_so_far}
use Rattle.fa_ledger.specs.Laws.{CallsListSoFar}
use Rattle.fa_ledger.proofs.ListedLemmas.{uses_is_one, listed_is_one}
use Rattle.fa_ledger.proofs.CallLemmas.{numbers, answers_at, call_at, call_with}
use Rattle.fa_ledger.proofs.OperationLemmas.{listed_lists}
use Rattle.fa_ledger.proofs.CallStepLemmas.{message_of, request_there, request_event, asked_later}

-- ---- requests that list

-- a request that lists is a tree request
pub lists_tree : (b : PlainBody) (offset : ℕ) → offset_asked b ≡ Some offset → IsTreeRequest b
lists_tree (Readdir r) offset is = refl
lists_tree (Readdirplus r) offset is = refl
lists_tree b offset is = absurd cc

-- what is answered with entries lists
pub lists_offset : (opcode : ℕ) (b : PlainBody) (bytes : List ℕ) (ds : List PlainDirent) → IsSuccessBody opcode b bytes (Listed ds) → (offset : ℕ) × (offset_asked b ≡ Some offset)
lists_offset opcode (Readdir r) bytes ds is = (r.offset, refl)
lists_offset opcode (Readdirplus r) bytes ds is = (r.offset, refl)
lists_offset opcode (Forget nlookup) bytes ds is = absurd is
lists_offset opcode (BatchForget count items) bytes ds is = absurd is
lists_offset opcode b bytes ds is = absurd cc

-- a request that is answered with entries begins at some offset
pub answered_offset : (c : List Message) (es : List PlainEvent) → AreEvents c es → (q at p : ℕ) (r : PlainRequest) (ds : List PlainDirent) → slice_get es q ≡ Some (Answered at p r (Listed ds))
    → (offset : ℕ) × (offset_asked r.body ≡ Some offset)
answered_offset c es are q at p r ds there =
    let message = message_of c es are q (Answered at p r (Listed ds)) there in
    let reply = message.2.2 in
    elim reply.body [
      | inl success ↦ lists_offset r.opcode r.body reply.head.body_bytes ds success.1
      | inr refused ↦ let clash : Listed ds ≡ Refused reply.error = refused.2 in absurd cc
    ]

-- ---- the call of a number

-- the first call of a number
call_found : (calls : List PlainCall) (z k : ℕ) (call : PlainCall) → slice_get calls k ≡ Some call → call.asked ≡ z
    → (place : ℕ) × (found : PlainCall) × (slice_get calls place ≡ Some found) × (found.asked ≡ z) × (call_asked calls z ≡ Some found)
call_found [] z k call there asked = absurd cc
call_found (first ∷ calls) z zero call there asked =
    let same : first ≡ call = cc in
    let number : first.asked ≡ z = ap (λ x. x.asked) same ∙ asked in
    let test : (first.asked == z) ≡ true = grind (arith, nat_tests, number) in
    (0, first, refl, number, (rw test refl))
call_found (first ∷ calls) z (suc k) call there asked =
    elim (cases_Bool (first.asked == z)) [
      | inl test ↦
          let number : first.asked ≡ z = grind (arith, nat_tests, test) in
          (0, first, refl, number, (rw test refl))
      | inr test ↦
          let later = call_found calls z k call there asked in
          (suc later.0, later.1, later.2, later.3, (rw test later.4))
    ]

-- the number at a place
number_at : (calls : List PlainCall) (k : ℕ) (call : PlainCall) → slice_get calls k ≡ Some call → (d : ℕ) → get_or (numbers calls) k d ≡ call.asked
number_at calls k call there d =
    get_or_from_slice_get (numbers calls) k call.asked d (slice_get-map (λ x. x.asked) calls k ∙ ap (option_map (λ x. x.asked)) there)

-- a call that was asked earlier stands earlier
stands_earlier : (calls : List PlainCall) (i k : ℕ) (earlier call : PlainCall) → IsStrictlyIncreasing (numbers calls) → slice_get calls i ≡ Some earlier → slice_get calls k ≡ Some call
    → earlier.asked < call.asked → i < k
stands_earlier calls i k earlier call rising here there before =
    elim (cases_lt i k) [
      | inl below ↦ below
      | inr not_below ↦ elim (cases_lt k i) [
        | inl above ↦
            let within : i < length (numbers calls) = omega (arith, slice_get_within calls i earlier here, length-map calls (λ x. x.asked)) in
            let rises = AllPairs-from_increasing (numbers calls) rising k i 0 above within in
            absurd (omega (arith, rises, before, number_at calls i earlier here 0, number_at calls k call there 0))
        | inr not_above ↦
            let same : i ≡ k = omega (arith, not_below, not_above) in
            let asked = sym (number_at calls i earlier here 0) ∙ ap (λ n. get_or (numbers calls) n 0) same ∙ number_at calls k call there 0 in
            absurd (omega (arith, asked, before))
      ]
    ]

-- ---- what a call goes on from

-- the entries of a call that was answered with these
entries_there : (c : List Message) (es : List PlainEvent) → AreEvents c es → (r : PlainRequest) (call : PlainCall) (at : ℕ) (ds : List PlainDirent) → slice_get es at ≡ Some (Answered at call.asked r (Listed ds))
    → (answer : Option PlainAnswer) → HasAnswer es r call answer → entries_answered call.operation ≡ ds
entries_there c es are r call at ds there None has = absurd (has.none at (Listed ds) there)
entries_there c es are r call at ds there (Some answer) has =
    let first = answers_at c es are answer.at answer.at call.asked r has.reply has.there in
    let second = answers_at c es are at at call.asked r (Listed ds) there in
    let same : answer.at ≡ at = answered_once c answer.at at call.asked r r first second in
    let here : slice_get es at ≡ Some (Answered answer.at call.asked r has.reply) = subst (λ k. slice_get es k ≡ Some (Answered answer.at call.asked r has.reply)) same has.there in
    let events : Some (Answered answer.at call.asked r has.reply) ≡ Some (Answered at call.asked r (Listed ds)) = sym here ∙ there in
    let replies : has.reply ≡ Listed ds = cc in
    listed_lists r.body ds call.operation (subst (λ reply. operation_of r.body (Some reply) ≡ Some call.operation) replies has.does)

-- The call of a part's request, which comes before the call of this place and number. Its answer has the part's entries.
record IsPartsCall (es : List PlainEvent) (calls : List PlainCall) (place number : ℕ) (part : Part) : Type 0 where
  at : ℕ
  call : PlainCall
  is : IsCall es call
  there : slice_get calls at ≡ Some call
  earlier : at < place
  found : call_asked calls part.asked ≡ Some call
  asked : call.asked ≡ part.asked
  request : is.request ≡ part.request
  entries : entries_answered call.operation ≡ part.entries
  before : part.asked < number
  began : ℕ
  begins : offset_asked part.request.body ≡ Some began

-- a part that a call reaches has its call
parts_call : (c : List Message) (es : List PlainEvent) (calls : List PlainCall) → AreEvents c es → AreCallsOf es calls → (place : ℕ) (call : PlainCall) → slice_get calls place ≡ Some call
    → (handle offset : ℕ) (part : Part) → ReachesOffset (take call.asked es) handle offset part → IsPartsCall es calls place call.asked part
parts_call c es calls are exact place call stands handle offset part reaches =
    let e : PlainEvent = Answered part.at part.asked part.request (Listed part.entries) in
    let within : part.at < length (take call.asked es) = slice_get_within (take call.asked es) part.at e reaches.there in
    let there : slice_get es part.at ≡ Some e = get_of_front es call.asked part.at e reaches.there in
    let later : part.asked < part.at = asked_later c es are part.at part.at part.asked part.request (Listed part.entries) there in
    let before : part.asked < call.asked = omega (arith, within, later, length-take call.asked es) in
    let asks : slice_get es part.asked ≡ Some (Asked part.asked part.request) =
    request_event c es are part.asked part.request (answered_asked c part.at part.asked part.request (answers_at c es are part.at part.at part.asked part.request (Listed part.entries) there)) in
    let offset = answered_offset c es are part.at part.at part.asked part.request part.entries there in
    let some = call_with calls part.asked (exact.complete part.asked part.request asks (lists_tree part.request.body offset.0 offset.1)) in
    let first = call_found calls part.asked some.0 some.1 some.2 some.3 in
    let is : IsCall es first.1 = call_at es calls exact.each first.0 first.1 first.2 in
    let request : is.request ≡ part.request = request_there es part.asked first.1 part.request is first.3 asks in
    record {
      at = first.0;
      call = first.1;
      is = is;
      there = first.2;
      earlier = stands_earlier calls first.0 place first.1 call exact.rising first.2 stands (omega (arith, first.3, before));
      found = first.4;
      asked = first.3;
      request = request;
      entries = entries_there c es are is.request first.1 part.at part.entries (rw (first.3, request) there) first.1.answer is.answered;
      before = before;
      began = offset.0;
      begins = offset.1;
    }

-- a request that lists goes on from what its listing says
goes_on : (es : List PlainEvent) (r : PlainRequest) (listing : Option Listing) → IsListingIfAny es r listing → (handle offset : ℕ) → UsesHandle es r handle → offset_asked r.body ≡ Some offset
    → GoesOnFrom es handle offset (option_and_then (λ l. l.before) listing)
goes_on es r None is handle offset uses asks = let clash : None ≡ Some offset = sym is ∙ asks in absurd cc
goes_on es r (Some listing) is handle offset uses asks =
    let handles : is.handle ≡ handle = uses_is_one es r is.handle handle is.uses uses in
    let offsets : is.offset ≡ offset = same_Some is.offset offset (sym is.asks ∙ asks) in
    rw (← handles, ← offsets) is.before

-- ---- what was listed so far

-- nothing was listed for a request that goes on from none
nothing_listed : (es : List PlainEvent) (handle offset : ℕ) → GoesOnFrom es handle offset None → (adrift : Bool) × IsListedSoFar es handle offset [] adrift
nothing_listed es handle zero goes = (false, anew es handle)
nothing_listed es handle (suc k) goes =
    let away : suc k ≢ 0 = λ is. omega (arith, is) in
    (true, unreached es handle (suc k) away (goes away))

-- what was listed so far for a call that goes on from this, over so many earlier calls
abbrev listed_on : ℕ → List PlainCall → ℕ × ℕ → List PlainDirent
listed_on n calls before = option_map_or (λ earlier. listed_within n calls earlier ++ take before.1 (entries_answered earlier.operation)) (call_asked calls before.0) []

-- a call goes on from what was listed so far for the call of its last part
listed_further : (es : List PlainEvent) (calls : List PlainCall) (n place number handle offset : ℕ) (before : ℕ × ℕ) (part : Part) → offset ≢ 0 → IsLastPart (take number es) handle offset part
    → before ≡ (part.asked, part.count) → (is : IsPartsCall es calls place number part) (adrift : Bool)
    → IsListedSoFar (take is.call.asked es) handle is.began (listed_within n calls is.call) adrift
    → IsListedSoFar (take number es) handle offset (listed_on n calls before) adrift
listed_further es calls n place number handle offset before part away last same is adrift listed =
    let front : take is.call.asked es ≡ take part.asked (take number es) = ap (λ k. take k es) is.asked ∙ sym (take-take part.asked number es (omega (arith, is.before))) in
    let first : listed_on n calls before ≡ listed_on n calls (part.asked, part.count) = ap (listed_on n calls) same in
    let found : listed_on n calls (part.asked, part.count) ≡ listed_within n calls is.call ++ take part.count (entries_answered is.call.operation) =
    ap (λ o. option_map_or (λ earlier. listed_within n calls earlier ++ take part.count (entries_answered earlier.operation)) o []) is.found in
    let counted : listed_within n calls is.call ++ take part.count (entries_answered is.call.operation) ≡ listed_within n calls is.call ++ take part.count part.entries =
    ap (λ ds. listed_within n calls is.call ++ take part.count ds) is.entries in
    subst (λ ds. IsListedSoFar (take number es) handle offset ds adrift) (sym (first ∙ found ∙ counted))
    (further (take number es) handle offset part is.began (listed_within n calls is.call) adrift away last is.begins
    (subst (λ x. IsListedSoFar x handle is.began (listed_within n calls is.call) adrift) front listed))

-- what the calls list for one of them within as many as stand before it
listed_so_far : (c : List Message) (es : List PlainEvent) (calls : List PlainCall) → AreEvents c es → AreCallsOf es calls → (n place : ℕ) (call : PlainCall) → place ≤ n → slice_get calls place ≡ Some call
    → (is : IsCall es call) (handle offset : ℕ) → UsesHandle (take call.asked es) is.request handle → offset_asked is.request.body ≡ Some offset
    → (adrift : Bool) × IsListedSoFar (take call.asked es) handle offset (listed_within n calls call) adrift
listed_so_far c es calls are exact zero place call within stands is handle offset uses asks =
    elim (before_of call) as (λ b. GoesOnFrom (take call.asked es) handle offset b → (adrift : Bool) × IsListedSoFar (take call.asked es) handle offset [] adrift) [
      | None ↦ λ goes. nothing_listed (take call.asked es) handle offset goes
      | Some before ↦ λ goes.
          let found = parts_call c es calls are exact place call stands handle offset goes.1.0 goes.1.1.reaches in
          absurd (omega (arith, found.earlier, within))
    ] (goes_on (take call.asked es) is.request call.listing is.asked.listing handle offset uses asks)
listed_so_far c es calls are exact (suc n) place call within stands is handle offset uses asks =
    elim (before_of call) as (λ b. GoesOnFrom (take call.asked es) handle offset b → (adrift : Bool) × IsListedSoFar (take call.asked es) handle offset (option_map_or (listed_on n calls) b []) adrift) [
      | None ↦ λ goes. nothing_listed (take call.asked es) handle offset goes
      | Some before ↦ λ goes.
          let part : Part = goes.1.0 in
          let found = parts_call c es calls are exact place call stands handle offset part goes.1.1.reaches in
          let front : take part.asked (take call.asked es) ≡ take found.call.asked es = take-take part.asked call.asked es (omega (arith, found.before)) ∙ ap (λ k. take k es) (sym found.asked) in
          let there : UsesHandle (take found.call.asked es) part.request handle = subst (λ x. UsesHandle x part.request handle) front goes.1.1.reaches.uses in
          let used : UsesHandle (take found.call.asked es) found.is.request handle = subst (λ r. UsesHandle (take found.call.asked es) r handle) (sym found.request) there in
          let begins : offset_asked found.is.request.body ≡ Some found.began = ap (λ r. offset_asked r.body) found.request ∙ found.begins in
          let listed = listed_so_far c es calls are exact n found.at found.call (omega (arith, found.earlier, within)) found.there found.is handle found.began used begins in
          (listed.0, listed_further es calls n place call.asked handle offset before part goes.0 goes.1.1 goes.1.2 found listed.0 listed.1)
    ] (goes_on (take call.asked es) is.request call.listing is.asked.listing handle offset uses asks)

-- what the calls say was listed so far for one of them was listed so far for its request, and is adrift as its mark says
pub calls_list_so_far : CallsListSoFar
calls_list_so_far c es calls are exact place call listing stands lists r there handle offset uses_r asks_r =
    let before = take call.asked es in
    let is : IsCall es call = call_at es calls exact.each place call stands in
    let same : is.request ≡ r = request_there es call.asked call r is refl there in
    let uses : UsesHandle before is.request handle = subst (λ q. UsesHandle before q handle) (sym same) uses_r in
    let asks : offset_asked is.request.body ≡ Some offset = ap (λ q. offset_asked q.body) same ∙ asks_r in
    let mine : IsListing before is.request listing = subst (IsListingIfAny before is.request) lists is.asked.listing in
    let handles : mine.handle ≡ handle = uses_is_one before is.request mine.handle handle mine.uses uses in
    let offsets : mine.offset ≡ offset = same_Some mine.offset offset (sym mine.asks ∙ asks) in
    let marked : IsListedSoFar before handle offset mine.adrift.0 listing.adrift = rw (← handles, ← offsets) mine.adrift.1 in
    let found = listed_so_far c es calls are exact place place call (omega arith) stands is handle offset uses asks in
    let marks = listed_is_one before handle offset (listed_within place calls call) mine.adrift.0 found.0 listing.adrift found.1 marked in
    let here : listing_so_far calls place ≡ listed_within place calls call = ap (λ o. option_map_or (λ x. listed_within place calls x) o []) stands in
    subst (λ ds. IsListedSoFar before handle offset ds listing.adrift) (sym here) (subst (IsListedSoFar before handle offset (listed_within place calls call)) marks.1 found.1)
