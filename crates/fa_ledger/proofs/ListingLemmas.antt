-- One event more: where the offsets of the open directories were last answered, and what a request goes on from.
use Rattle.std.proofs.Common.{◌≡◌, ℕ, ◌<◌, ◌⊎◌, Bool, true, false, List, [], ◌∷◌, ◌++◌, length, take, Option, Some, None, refl, sym, ap, subst, ◌∙◌, inl, inr, arith}
use Rattle.std.specs.Prelude.{◌≢◌, ◌==◌, if◌then◌else◌, cond, slice_get}
use Rattle.std.specs.Map.{lookup}
use Rattle.std.proofs.lemmas.Bool.Decides.{nat_tests}
use Rattle.std.proofs.lemmas.Option.{slice_get_within, same_Some}
use Rattle.std.proofs.lemmas.List.{length-append, length-take, take-take}
use Rattle.fa_bodies.specs.declared.handles.OpenOut.{OpenOut}
use Rattle.fa_bodies.specs.Dirents.{PlainDirent}
use Rattle.fa_bodies.specs.Requests.{PlainRequest}
use Rattle.fa_bodies.specs.Replies.{PlainReply}
use Rattle.fa_bodies.specs.Replies.PlainReply.{Listed}
use Rattle.fa_capture.specs.Message.{Message}
use Rattle.fa_capture.proofs.CallerLemmas.{get_kept, get_back, get_last, get_cases, get_of_front, take_before, take_all_before}
use Rattle.fa_session.specs.Events.{PlainEvent, IsEvent}
use Rattle.fa_session.specs.Events.PlainEvent.{Asked, Answered}
use Rattle.fa_session.proofs.CallerLemmas.{answered_once}
use Rattle.fa_ledger.specs.declared.handles.Handle.{Handle}
use Rattle.fa_ledger.specs.declared.key.Key.{Key}
use Rattle.fa_ledger.specs.declared.listings.Place.{Place}
use Rattle.fa_ledger.specs.Events.{AreEvents}
use Rattle.fa_ledger.specs.Keys.{key_eq, key_used}
use Rattle.fa_ledger.specs.Handles.{opening, times_opened, times_closed, IsOpen, OpensAt, IsHandle}
use Rattle.fa_ledger.specs.Listings.{Part, UsesHandle, ReachesOffset, IsNeverReached, IsListedSoFar, IsListing, count_to, offset_asked}
use Rattle.fa_ledger.specs.Listings.IsListedSoFar.{anew, unreached, further}
use Rattle.fa_ledger.specs.Shows.{IsOpenAs, IsKeyOf, IsPlace, IsPlaceOf, ArePlaces}
use Rattle.fa_ledger.specs.parts.ListingParts.{noted, going_on, further_on}
use Rattle.fa_ledger.proofs.HandleLemmas.{key_same, key_self, opened_more, closed_more, open_before, since_open}
use Rattle.fa_ledger.proofs.CallLemmas.{answers_at}
use Rattle.fa_ledger.proofs.HandleLemmas.{handle_is_one}
use Rattle.fa_ledger.proofs.ListedLemmas.{uses_is_one}
use Rattle.fa_ledger.proofs.CallStepLemmas.{events_more, asked_later, event_asked, event_unanswered}

-- ---- the names of handles

-- The answer to the request of this number opened the key, which may be closed again.
record IsOpenedUnder (es : List PlainEvent) (key : Key) (name : ℕ) : Type 0 where
  since : ℕ
  out : OpenOut
  opened : OpensAt es since key out
  request : PlainRequest
  reply : PlainReply
  answer : slice_get es since ≡ Some (Answered since name request reply)

-- a handle was opened under its name
handle_opened : (es : List PlainEvent) (key : Key) (name : ℕ) → IsHandle es key name → IsOpenedUnder es key name
handle_opened es key name is = record {
  since = is.since;
  out = is.stands.out;
  opened = is.stands.opened;
  request = is.request;
  reply = is.reply;
  answer = is.answer;
}

-- what the first events opened, all of them did
opened_front : (es : List PlainEvent) (n : ℕ) (key : Key) (name : ℕ) → IsOpenedUnder (take n es) key name → IsOpenedUnder es key name
opened_front es n key name is =
    let within : is.since < length (take n es) = slice_get_within (take n es) is.since is.opened.0 is.opened.1 in
    let front : take is.since (take n es) ≡ take is.since es = take-take is.since n es (omega (arith, within, length-take n es)) in
    record {
      since = is.since;
      out = is.out;
      opened = (is.opened.0, get_of_front es n is.since is.opened.0 is.opened.1, subst (λ x. opening x is.opened.0 ≡ Some (key, is.out)) front is.opened.2);
      request = is.request;
      reply = is.reply;
      answer = get_of_front es n is.since (Answered is.since name is.request is.reply) is.answer;
    }

-- one answer opens one key
opened_is_one : (c : List Message) (es : List PlainEvent) → AreEvents c es → (a b : Key) (name : ℕ) → IsOpenedUnder es a name → IsOpenedUnder es b name → a ≡ b
opened_is_one c es are a b name is too =
    let first = answers_at c es are is.since is.since name is.request is.reply is.answer in
    let second = answers_at c es are too.since too.since name too.request too.reply too.answer in
    let same : is.since ≡ too.since = answered_once c is.since too.since name is.request too.request first second in
    let moved : OpensAt es too.since a is.out = subst (λ i. OpensAt es i a is.out) same is.opened in
    let event : moved.0 ≡ too.opened.0 = same_Some moved.0 too.opened.0 (sym moved.1 ∙ too.opened.1) in
    let opens : opening (take too.since es) too.opened.0 ≡ Some (a, is.out) = subst (λ (x : PlainEvent). opening (take too.since es) x ≡ Some (a, is.out)) event moved.2 in
    ap (λ pair. pair.0) (same_Some (a, is.out) (b, too.out) (sym opens ∙ too.opened.2))

-- a name is that of one key's handle, before and now
handle_key : (c : List Message) (es : List PlainEvent) → AreEvents c es → (n : ℕ) (a b : Key) (name : ℕ) → IsHandle (take n es) a name → IsHandle es b name → a ≡ b
handle_key c es are n a b name before now =
    opened_is_one c es are a b name (opened_front es n a name (handle_opened (take n es) a name before)) (handle_opened es b name now)

-- a handle was one before, or the new event opens it under its name
handle_cases : (es : List PlainEvent) (e : PlainEvent) (key : Key) (handle : ℕ) → IsHandle (es ++ e ∷ []) key handle
    → IsHandle es key handle ⊎ ((IsOpen es key → ⊥) × ((at : ℕ) × (r : PlainRequest) × (reply : PlainReply) × (e ≡ Answered at handle r reply)))
handle_cases es e key handle is =
    elim (get_cases es e is.since (Answered is.since handle is.request is.reply) is.answer) [
      | inl below ↦ inl (record {
        since = is.since;
        stands = open_before es e key is.since below is.stands;
        request = is.request;
        reply = is.reply;
        answer = get_back es (e ∷ []) is.since (Answered is.since handle is.request is.reply) below is.answer;
      })
      | inr now ↦
          let front : take is.since (es ++ e ∷ []) ≡ es = ap (λ k. take k (es ++ e ∷ [])) now.0 ∙ take_all_before es e in
          let none : times_opened es key ≡ times_closed es key = subst (λ x. times_opened x key ≡ times_closed x key) front is.stands.anew in
          inr (λ stood. omega (arith, none, stood), (is.since, is.request, is.reply, sym now.1))
    ]

-- ---- the parts that reach an offset

-- the events before the request of a part, with one event more behind
front_kept : (c : List Message) (es : List PlainEvent) (e : PlainEvent) → AreEvents c es → (q at asked : ℕ) (r : PlainRequest) (reply : PlainReply)
    → slice_get es q ≡ Some (Answered at asked r reply) → take asked (es ++ e ∷ []) ≡ take asked es
front_kept c es e are q at asked r reply there =
    let within = slice_get_within es q (Answered at asked r reply) there in
    let later = asked_later c es are q at asked r reply there in
    take_before es e asked (omega (arith, within, later))

-- what reached an offset still does
reaches_still : (c : List Message) (es : List PlainEvent) (e : PlainEvent) → AreEvents c es → (handle offset : ℕ) (part : Part)
    → ReachesOffset es handle offset part → ReachesOffset (es ++ e ∷ []) handle offset part
reaches_still c es e are handle offset part reaches =
    let front = front_kept c es e are part.at part.at part.asked part.request (Listed part.entries) reaches.there in
    record {
      there = get_kept es (e ∷ []) part.at _ reaches.there;
      uses = subst (λ x. UsesHandle x part.request handle) (sym front) reaches.uses;
      count = reaches.count;
    }

-- what reaches an offset did so before, or is the new event
reaches_cases : (c : List Message) (es : List PlainEvent) (e : PlainEvent) → AreEvents c es → (handle offset : ℕ) (part : Part)
    → ReachesOffset (es ++ e ∷ []) handle offset part → ReachesOffset es handle offset part ⊎ (Answered part.at part.asked part.request (Listed part.entries) ≡ e)
reaches_cases c es e are handle offset part reaches =
    let event : PlainEvent = Answered part.at part.asked part.request (Listed part.entries) in
    elim (get_cases es e part.at event reaches.there) [
      | inl below ↦
          let there : slice_get es part.at ≡ Some event = get_back es (e ∷ []) part.at event below reaches.there in
          let front = front_kept c es e are part.at part.at part.asked part.request (Listed part.entries) there in
          inl (record { there = there; uses = subst (λ x. UsesHandle x part.request handle) front reaches.uses; count = reaches.count })
      | inr now ↦ inr now.1
    ]

-- the new event does not reach the offset on the handle: what does, did so before
abbrev ReachesNot : List PlainEvent → PlainEvent → (handle offset : ℕ) → Type 0
ReachesNot es e handle offset = (part : Part) → ReachesOffset (es ++ e ∷ []) handle offset part → ReachesOffset es handle offset part

-- an event that lists nothing reaches no offset
unlisted_reaches : (c : List Message) (es : List PlainEvent) (e : PlainEvent) → AreEvents c es
    → ((at asked : ℕ) (r : PlainRequest) (ds : List PlainDirent) → e ≡ Answered at asked r (Listed ds) → ⊥)
    → (handle offset : ℕ) → ReachesNot es e handle offset
unlisted_reaches c es e are unlisted handle offset part reaches =
    elim (reaches_cases c es e are handle offset part reaches) [
      | inl before ↦ before
      | inr now ↦ absurd (unlisted part.at part.asked part.request part.entries (sym now))
    ]

-- ---- places on a handle

-- an offset that the new event does not reach has the place that it had
place_still : (c : List Message) (es : List PlainEvent) (e : PlainEvent) → AreEvents c es → (handle offset : ℕ) → ReachesNot es e handle offset
    → (place : Option Place) → IsPlaceOf es handle offset place → IsPlaceOf (es ++ e ∷ []) handle offset place
place_still c es e are handle offset not None never = λ part reaches. never part (not part reaches)
place_still c es e are handle offset not (Some place) is =
    let front = front_kept c es e are is.part.at is.part.at is.part.asked is.part.request (Listed is.part.entries) is.last.reaches.there in
    record {
      part = is.part;
      last = record {
        reaches = reaches_still c es e are handle offset is.part is.last.reaches;
        last = λ other reaches. is.last.last other (not other reaches);
      };
      asked = is.asked;
      count = is.count;
      began = is.began;
      begins = is.begins;
      adrift = (is.adrift.0, subst (λ x. IsListedSoFar x handle is.began is.adrift.0 place.adrift) (sym front) is.adrift.1);
    }

-- no offset was reached on a handle whose name is that of a request that is answered only now
new_unreached : (c : List Message) (m : Message) (es : List PlainEvent) (e : PlainEvent) → AreEvents c es → IsEvent c m e
    → (at handle : ℕ) (r : PlainRequest) (reply : PlainReply) → e ≡ Answered at handle r reply → (offset : ℕ) → IsNeverReached (es ++ e ∷ []) handle offset
new_unreached c m es e are is at handle r reply new offset part reaches =
    let more : List PlainEvent = es ++ e ∷ [] in
    let named = reaches.uses.named in
    let event : PlainEvent = Answered named.since handle named.request named.reply in
    let below = slice_get_within more part.at _ reaches.there in
    let later = asked_later (c ++ m ∷ []) more (events_more c m es e are is) part.at part.at part.asked part.request (Listed part.entries) reaches.there in
    let within = slice_get_within (take part.asked more) named.since event named.answer in
    let early : named.since < length es = omega (arith, below, later, within, length-take part.asked more, length-append es (e ∷ [])) in
    let there : slice_get es named.since ≡ Some event = get_back es (e ∷ []) named.since event early (get_of_front more part.asked named.since event named.answer) in
    event_unanswered c m es are at handle r reply (subst (IsEvent c m) new is) named.since named.request named.reply there

-- ---- all places

-- what stands for the offsets after the new event are their places, if it is so on each handle that stays open, and on other
-- keys nothing stands for them
places_more : (c : List Message) (m : Message) (es : List PlainEvent) (e : PlainEvent) → AreEvents c es → IsEvent c m e → (new : Key → ℕ → Option Place)
    → ((key : Key) (handle offset : ℕ) → IsHandle es key handle → IsOpen (es ++ e ∷ []) key → IsPlaceOf (es ++ e ∷ []) handle offset (new key offset))
    → ((key : Key) (offset : ℕ) → (IsOpen es key → ⊥) → new key offset ≡ None)
    → ((key : Key) (offset : ℕ) → (IsOpen (es ++ e ∷ []) key → ⊥) → new key offset ≡ None)
    → ArePlaces (es ++ e ∷ []) new
places_more c m es e are is new kept unopened closed = record {
  «open» = λ key handle offset names.
      elim (handle_cases es e key handle names) [
        | inl before ↦ kept key handle offset before (since_open (es ++ e ∷ []) key names.since names.stands)
        | inr now ↦ subst (IsPlaceOf (es ++ e ∷ []) handle offset) (sym (unopened key offset now.0))
            (new_unreached c m es e are is now.1.0 handle now.1.1 now.1.2 now.1.3 offset)
      ];
  closed = closed;
}

-- an event that reaches no offset and closes no handle for good leaves the places of the offsets
places_still : (c : List Message) (m : Message) (es : List PlainEvent) (e : PlainEvent) → AreEvents c es → IsEvent c m e
    → ((key : Key) (handle offset : ℕ) → IsHandle es key handle → ReachesNot es e handle offset)
    → ((key : Key) → IsOpen es key → IsOpen (es ++ e ∷ []) key)
    → (place : Key → ℕ → Option Place) → ArePlaces es place → ArePlaces (es ++ e ∷ []) place
places_still c m es e are is not stays place places =
    places_more c m es e are is place
    (λ key handle offset names now. place_still c es e are handle offset (not key handle offset names) (place key offset) (places.«open» key handle offset names))
    (λ key offset shut. places.closed key offset shut)
    (λ key offset shut. places.closed key offset (λ stood. shut (stays key stood)))

-- an event that lists nothing and closes no handle for good leaves the places of the offsets
pub unlisted_places : (c : List Message) (m : Message) (es : List PlainEvent) (e : PlainEvent) → AreEvents c es → IsEvent c m e
    → ((at asked : ℕ) (r : PlainRequest) (ds : List PlainDirent) → e ≡ Answered at asked r (Listed ds) → ⊥)
    → ((key : Key) → IsOpen es key → IsOpen (es ++ e ∷ []) key)
    → (place : Key → ℕ → Option Place) → ArePlaces es place → ArePlaces (es ++ e ∷ []) place
unlisted_places c m es e are is unlisted stays =
    places_still c m es e are is (λ key handle offset names. unlisted_reaches c es e are unlisted handle offset) stays

-- ---- a handle that is closed

-- what the test of a key chooses, where the keys are one
chosen_same : (k key : Key) (x y z : Option Place) → x ≡ cond (key_eq k key) y z → key_eq k key ≡ true → x ≡ y
chosen_same k key x y z is same = is ∙ (rw same refl)

-- what the test of a key chooses, where they differ
chosen_other : (k key : Key) (x y z : Option Place) → x ≡ cond (key_eq k key) y z → key_eq k key ≡ false → x ≡ z
chosen_other k key x y z is other = is ∙ (rw other refl)

-- two keys are one, or differ
key_cases : (a b : Key) → ((key_eq a b ≡ true) × (a ≡ b)) ⊎ (key_eq a b ≡ false)
key_cases a b =
    elim (key_eq a b) as (λ t. key_eq a b ≡ t → ((key_eq a b ≡ true) × (a ≡ b)) ⊎ (key_eq a b ≡ false)) [
      | true ↦ λ is. inl (is, key_same a b is)
      | false ↦ λ is. inr is
    ] refl

-- an event that closes one handle for good leaves those of the others
pub closing_places : (c : List Message) (m : Message) (es : List PlainEvent) (e : PlainEvent) → AreEvents c es → IsEvent c m e
    → ((at asked : ℕ) (r : PlainRequest) (ds : List PlainDirent) → e ≡ Answered at asked r (Listed ds) → ⊥)
    → (k : Key) → (IsOpen (es ++ e ∷ []) k → ⊥)
    → ((key : Key) → key_eq k key ≡ false → IsOpen es key → IsOpen (es ++ e ∷ []) key)
    → (place new : Key → ℕ → Option Place) → ((key : Key) (offset : ℕ) → new key offset ≡ cond (key_eq k key) None (place key offset))
    → ArePlaces es place → ArePlaces (es ++ e ∷ []) new
closing_places c m es e are is unlisted k shut stays place new changed places =
    let none : (key : Key) (offset : ℕ) → (key_eq k key ≡ false → place key offset ≡ None) → new key offset ≡ None = λ key offset other.
    elim (key_cases k key) [
      | inl same ↦ chosen_same k key (new key offset) None (place key offset) (changed key offset) same.0
      | inr differ ↦ chosen_other k key (new key offset) None (place key offset) (changed key offset) differ ∙ other differ
    ] in
    places_more c m es e are is new
    (λ key handle offset names now.
    elim (key_cases k key) [
      | inl same ↦ absurd (shut (subst (IsOpen (es ++ e ∷ [])) (sym same.1) now))
      | inr differ ↦ subst (IsPlaceOf (es ++ e ∷ []) handle offset) (sym (chosen_other k key (new key offset) None (place key offset) (changed key offset) differ))
          (place_still c es e are handle offset (unlisted_reaches c es e are unlisted handle offset) (place key offset) (places.«open» key handle offset names))
    ])
    (λ key offset unopened. none key offset (λ differ. places.closed key offset unopened))
    (λ key offset closed. none key offset (λ differ. places.closed key offset (λ stood. closed (stays key differ stood))))

-- ---- what a request goes on from

-- a place is on an open handle, of a request that was answered
place_answered : (es : List PlainEvent) (key : Key) (handle : Option Handle) → IsKeyOf es key handle → (place : Key → ℕ → Option Place) → ArePlaces es place
    → (offset : ℕ) (p : Place) → place key offset ≡ Some p
    → (q : ℕ) × (r : PlainRequest) × (reply : PlainReply) × (slice_get es q ≡ Some (Answered q p.asked r reply))
place_answered es key None is place places offset p there =
    let none : place key offset ≡ None = places.closed key offset (λ stands. omega (arith, is, stands)) in
    absurd (let clash : None ≡ Some p = sym none ∙ there in cc)
place_answered es key (Some h) is place places offset p there =
    let stands : IsPlace es h.name offset p = subst (IsPlaceOf es h.name offset) there (places.«open» key h.name offset is.named) in
    let part = stands.part in
    (part.at, part.request, Listed part.entries, subst (λ n. slice_get es part.at ≡ Some (Answered part.at n part.request (Listed part.entries))) (sym stands.asked) stands.last.reaches.there)

-- what a request that begins elsewhere than at 0 goes on from is found at the place of its offset
goes_further : (es : List PlainEvent) (r : PlainRequest) (offset : ℕ) (key : Key) (h : Handle) → offset_asked r.body ≡ Some offset
    → key_used es r ≡ Some key → IsOpenAs es key h → offset ≢ 0 → (place : Option Place) → IsPlaceOf es h.name offset place
    → IsListing es r (further_on h.shared place)
goes_further es r offset key h asks used is elsewhere None never = record {
  offset = offset;
  asks = asks;
  handle = h.name;
  uses = record { key = key; used = used; named = is.named };
  before = λ other. never;
  adrift = ([], unreached es h.name offset elsewhere never);
  shared = is.shared;
}
goes_further es r offset key h asks used is elsewhere (Some place) stands = record {
  offset = offset;
  asks = asks;
  handle = h.name;
  uses = record { key = key; used = used; named = is.named };
  before = (elsewhere, (stands.part, stands.last, rw (stands.asked, stands.count) refl));
  adrift = (
    stands.adrift.0 ++ take stands.part.count stands.part.entries,
    further es h.name offset stands.part stands.began stands.adrift.0 place.adrift elsewhere stands.last stands.begins stands.adrift.1,
  );
  shared = is.shared;
}

-- what a request goes on from is found at the place of its offset
pub goes_on : (es : List PlainEvent) (r : PlainRequest) (offset : ℕ) (key : Key) (h : Handle) → offset_asked r.body ≡ Some offset
    → key_used es r ≡ Some key → IsOpenAs es key h → (place : Key → ℕ → Option Place) → ArePlaces es place
    → IsListing es r (going_on offset h.shared (place key offset))
goes_on es r offset key h asks used is place places =
    elim (offset == 0) as (λ b. (offset == 0) ≡ b → IsListing es r (if b then record { before = None; adrift = false; shared = h.shared } else further_on h.shared (place key offset))) [
      | true ↦ λ test.
          let start : offset ≡ 0 = grind (arith, nat_tests, test) in
          record {
            offset = offset;
            asks = asks;
            handle = h.name;
            uses = record { key = key; used = used; named = is.named };
            before = λ elsewhere. absurd (elsewhere start);
            adrift = ([], subst (λ o. IsListedSoFar es h.name o [] false) (sym start) (anew es h.name));
            shared = is.shared;
          }
      | false ↦ λ test.
          let elsewhere : offset ≢ 0 = grind (arith, nat_tests, test) in
          goes_further es r offset key h asks used is elsewhere (place key offset) (places.«open» key h.name offset is.named)
    ] refl

-- ---- an answer that lists

-- a reply closes no handle
pub reply_open : (es : List PlainEvent) (at asked : ℕ) (r : PlainRequest) (reply : PlainReply) (key : Key) → IsOpen es key → IsOpen (es ++ Answered at asked r reply ∷ []) key
reply_open es at asked r reply key stood =
    omega (arith, stood, opened_more es (Answered at asked r reply) key, closed_more es (Answered at asked r reply) key)

module _ (c : List Message) (m : Message) (es : List PlainEvent) (at asked : ℕ) (r : PlainRequest) where
  -- an answer that lists reaches an offset only on the handle that its request uses, and if an entry has the offset
  listed_reaches : (ds : List PlainDirent) → AreEvents c es → IsEvent c m (Answered at asked r (Listed ds))
      → (handle offset : ℕ) → (UsesHandle (take asked es) r handle → (n : ℕ) → count_to offset ds ≡ Some n → ⊥)
      → ReachesNot es (Answered at asked r (Listed ds)) handle offset
  listed_reaches ds are is handle offset not part reaches =
      let e : PlainEvent = Answered at asked r (Listed ds) in
      let within : asked < length es = slice_get_within es asked (Asked asked r) (event_asked c m es are at asked r (Listed ds) is) in
      elim (reaches_cases c es e are handle offset part reaches) [
        | inl before ↦ before
        | inr now ↦
            let number : part.asked ≡ asked = cc in
            let request : part.request ≡ r = cc in
            let entries : part.entries ≡ ds = cc in
            let front : take part.asked (es ++ e ∷ []) ≡ take asked es = ap (λ k. take k (es ++ e ∷ [])) number ∙ take_before es e asked (omega (arith, within)) in
            let uses : UsesHandle (take asked es) r handle = subst (λ s. UsesHandle (take asked es) s handle) request (subst (λ x. UsesHandle x part.request handle) front reaches.uses) in
            let count : count_to offset ds ≡ Some part.count = subst (λ xs. count_to offset xs ≡ Some part.count) entries reaches.count in
            absurd (not uses part.count count)
      ]

  -- the offset of an entry that is answered now has its place there
  place_now : (ds : List PlainDirent)
      → AreEvents c es → IsEvent c m (Answered at asked r (Listed ds))
      → (handle began : ℕ) (adrift : Bool) → UsesHandle (take asked es) r handle → offset_asked r.body ≡ Some began
      → ((entries : List PlainDirent) × IsListedSoFar (take asked es) handle began entries adrift)
      → (offset n : ℕ) → count_to offset ds ≡ Some n
      → IsPlace (es ++ Answered at asked r (Listed ds) ∷ []) handle offset (record { asked = asked; count = n; adrift = adrift })
  place_now ds are is handle began adrift uses begins so_far offset n counts =
      let e : PlainEvent = Answered at asked r (Listed ds) in
      let more : List PlainEvent = es ++ e ∷ [] in
      let within : asked < length es = slice_get_within es asked (Asked asked r) (event_asked c m es are at asked r (Listed ds) is) in
      let front : take asked more ≡ take asked es = take_before es e asked (omega (arith, within)) in
      let here : at ≡ length es = is.0 ∙ sym are.counted in
      record {
        part = record { at = at; asked = asked; request = r; entries = ds; count = n };
        last = record {
          reaches = record {
            there = subst (λ k. slice_get more k ≡ Some e) (sym here) (get_last es e);
            uses = subst (λ x. UsesHandle x r handle) (sym front) uses;
            count = counts;
          };
          last = λ other reaches.
              let below = slice_get_within more other.at _ reaches.there in
              omega (arith, below, here, length-append es (e ∷ []));
        };
        asked = refl;
        count = refl;
        began = began;
        begins = begins;
        adrift = (so_far.0, subst (λ x. IsListedSoFar x handle began so_far.0 adrift) (sym front) so_far.1);
      }

  -- on the handle on which a reply lists, the offsets of its entries have their places there, and others keep theirs
  noted_place : (ds : List PlainDirent)
      → AreEvents c es → IsEvent c m (Answered at asked r (Listed ds))
      → (handle began : ℕ) (adrift : Bool) → UsesHandle (take asked es) r handle → offset_asked r.body ≡ Some began
      → ((entries : List PlainDirent) × IsListedSoFar (take asked es) handle began entries adrift)
      → (offset : ℕ) (place : Option Place) → IsPlaceOf es handle offset place
      → IsPlaceOf (es ++ Answered at asked r (Listed ds) ∷ []) handle offset (noted asked adrift (count_to offset ds) place)
  noted_place ds are is handle began adrift uses begins so_far offset place stands =
      let e : PlainEvent = Answered at asked r (Listed ds) in
      elim (count_to offset ds) as (λ t. count_to offset ds ≡ t → IsPlaceOf (es ++ e ∷ []) handle offset (noted asked adrift t place)) [
        | None ↦ λ none.
            place_still c es e are handle offset (listed_reaches ds are is handle offset (λ used n counts. let clash : None ≡ Some n = sym none ∙ counts in absurd cc)) place stands
        | Some n ↦ λ counts. place_now ds are is handle began adrift uses begins so_far offset n counts
      ] refl

  -- a reply that lists on a handle that is open is where its offsets were last answered
  pub listed_places : (ds : List PlainDirent)
      → AreEvents c es → IsEvent c m (Answered at asked r (Listed ds))
      → (handle began : ℕ) (adrift : Bool) (uses : UsesHandle (take asked es) r handle) → IsHandle es uses.key handle
      → offset_asked r.body ≡ Some began
      → ((entries : List PlainDirent) × IsListedSoFar (take asked es) handle began entries adrift)
      → (place new : Key → ℕ → Option Place)
      → ((key : Key) (offset : ℕ) → new key offset ≡ cond (key_eq uses.key key) (noted asked adrift (count_to offset ds) (place key offset)) (place key offset))
      → ArePlaces es place → ArePlaces (es ++ Answered at asked r (Listed ds) ∷ []) new
  listed_places ds are is handle began adrift uses names begins so_far place new changed places =
      let e : PlainEvent = Answered at asked r (Listed ds) in
      let noted_at : Key → ℕ → Option Place = λ key offset. noted asked adrift (count_to offset ds) (place key offset) in
      let none : (key : Key) (offset : ℕ) → (IsOpen es key → ⊥) → new key offset ≡ None = λ key offset shut.
      elim (key_cases uses.key key) [
        | inl same ↦ absurd (shut (subst (IsOpen es) same.1 (since_open es uses.key names.since names.stands)))
        | inr differ ↦ chosen_other uses.key key (new key offset) (noted_at key offset) (place key offset) (changed key offset) differ ∙ places.closed key offset shut
      ] in
      places_more c m es e are is new
      (λ key other offset named now.
      elim (key_cases uses.key key) [
        | inl same ↦
            let one : other ≡ handle = handle_is_one es key other handle named (subst (λ k. IsHandle es k handle) same.1 names) in
            let stands : IsPlaceOf es handle offset (place key offset) = subst (λ h. IsPlaceOf es h offset (place key offset)) one (places.«open» key other offset named) in
            let there = noted_place ds are is handle began adrift uses begins so_far offset (place key offset) stands in
            rw (chosen_same uses.key key (new key offset) (noted_at key offset) (place key offset) (changed key offset) same.0, one) there
        | inr differ ↦
            let not : ReachesNot es e other offset = listed_reaches ds are is other offset (λ used n counts.
            let one : other ≡ handle = uses_is_one (take asked es) r other handle used uses in
            let keys : uses.key ≡ key = handle_key c es are asked uses.key key other (subst (IsHandle (take asked es) uses.key) (sym one) uses.named) named in
            let clash : key_eq uses.key key ≡ true = subst (λ k. key_eq uses.key k ≡ true) keys (key_self uses.key) in
            absurd cc) in
            rw (chosen_other uses.key key (new key offset) (noted_at key offset) (place key offset) (changed key offset) differ)
            (place_still c es e are other offset not (place key offset) (places.«open» key other offset named))
      ])
      none
      (λ key offset shut. none key offset (λ stood. shut (reply_open es at asked r (Listed ds) key stood)))

  -- a reply that lists on a handle that is closed by now, or open under another name, is the place of none
  pub late_places : (ds : List PlainDirent)
      → AreEvents c es → IsEvent c m (Answered at asked r (Listed ds))
      → (handle : ℕ) (uses : UsesHandle (take asked es) r handle) → (IsHandle es uses.key handle → ⊥)
      → (place : Key → ℕ → Option Place) → ArePlaces es place → ArePlaces (es ++ Answered at asked r (Listed ds) ∷ []) place
  late_places ds are is handle uses late =
      places_still c m es (Answered at asked r (Listed ds)) are is
      (λ key other offset named. listed_reaches ds are is other offset (λ used n counts.
      let one : other ≡ handle = uses_is_one (take asked es) r other handle used uses in
      let here : IsHandle es key handle = subst (IsHandle es key) one named in
      let keys : uses.key ≡ key = handle_key c es are asked uses.key key handle uses.named here in
      late (subst (λ k. IsHandle es k handle) (sym keys) here)))
      (reply_open es at asked r (Listed ds))

  -- and so is one that lists nothing, whatever its handle
  pub empty_places : AreEvents c es → IsEvent c m (Answered at asked r (Listed []))
      → (place : Key → ℕ → Option Place) → ArePlaces es place → ArePlaces (es ++ Answered at asked r (Listed []) ∷ []) place
  empty_places are is =
      places_still c m es (Answered at asked r (Listed [])) are is
      (λ key other offset named. listed_reaches [] are is other offset (λ used n counts. let clash : None ≡ Some n = counts in absurd cc))
      (reply_open es at asked r (Listed []))

  -- no place is of the answer to a request that is answered only now
  pub answered_anew : (reply : PlainReply)
      → AreEvents c es → IsEvent c m (Answered at asked r reply)
      → (opened : List (Key × Handle)) → ((key : Key) → IsKeyOf es key (lookup (key_eq key) opened))
      → (place : Key → ℕ → Option Place) → ArePlaces es place
      → (key : Key) (offset : ℕ) (p : Place) → place key offset ≡ Some p → p.asked ≢ asked
  answered_anew reply are is opened handles place places key offset p there same =
      let found = place_answered es key (lookup (key_eq key) opened) (handles key) place places offset p there in
      event_unanswered c m es are at asked r reply is found.0 found.1 found.2
      (subst (λ n. slice_get es found.0 ≡ Some (Answered found.0 n found.1 found.2)) same found.3)
