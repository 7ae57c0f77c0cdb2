-- What one event does to the places of the offsets, in the words of the books: by the tables of keys before and after it, and
-- by what an answer lists.
use Rattle.std.proofs.Common.{◌≡◌, ◌≢◌, ◌⊎◌, ℕ, suc, ◌≤◌, Bool, true, false, cond, List, [], ◌∷◌, ◌++◌, take, Option, None, Some, refl, sym, ap, subst, ◌∙◌, inl, inr, arith}
use Rattle.std.specs.List.{list_any}
use Rattle.std.specs.Prelude.{◌||◌, Contains, nat_eq, is_none, option_map, option_and_then}
use Rattle.std.specs.Map.{lookup}
use Rattle.std.specs.Option.{option_map_or}
use Rattle.fa_capture.specs.Message.{Message}
use Rattle.fa_bodies.specs.Dirents.{PlainDirent}
use Rattle.fa_bodies.specs.Listing.{entries_left}
use Rattle.fa_bodies.specs.Requests.{PlainRequest, PlainBody}
use Rattle.fa_bodies.specs.Requests.PlainBody.{Readdir, Readdirplus}
use Rattle.fa_bodies.specs.Replies.{PlainReply}
use Rattle.fa_bodies.specs.Replies.PlainReply.{Refused, Listed}
use Rattle.fa_session.specs.Events.{PlainEvent, IsEvent}
use Rattle.fa_session.specs.Events.PlainEvent.{Asked, Answered}
use Rattle.fa_ledger.specs.declared.tables.Used.{Used}
use Rattle.fa_ledger.specs.declared.call.Listing.{Listing}
use Rattle.fa_ledger.specs.declared.handles.Handle.{Handle}
use Rattle.fa_ledger.specs.declared.key.HandleKind.{HandleKind}
use Rattle.fa_ledger.specs.declared.key.Key.{Key}
use Rattle.fa_ledger.specs.declared.listings.ListedOn.{ListedOn}
use Rattle.fa_ledger.specs.declared.listings.Offsets.{Offsets}
use Rattle.fa_ledger.specs.declared.listings.Place.{Place}
use Rattle.fa_ledger.specs.declared.name.NodeName.{NodeName}
use Rattle.fa_ledger.specs.Events.{AreEvents}
use Rattle.fa_ledger.specs.Names.{name_at}
use Rattle.fa_ledger.specs.Keys.{key_eq, key_at, key_used, handle_used}
use Rattle.fa_ledger.specs.Handles.{IsOpen, IsHandle}
use Rattle.fa_ledger.specs.Kinds.{IsTreeRequest}
use Rattle.fa_ledger.specs.Listings.{UsesHandle, IsListingIfAny, IsListedSoFar, offset_asked, IsNeverReached}
use Rattle.fa_ledger.specs.Calls.{PlainCall, IsAskedCall, IsHandleUsed, AreCallsOf}
use Rattle.fa_ledger.specs.Refusals.{ListsOn}
use Rattle.fa_ledger.specs.Shows.{IsKeyOf, IsOpenAs, IsPlaceOf, ArePlaces, place_in}
use Rattle.fa_ledger.specs.parts.TableParts.{KeysShow, IsUsedIfAny}
use Rattle.fa_ledger.specs.parts.CallParts.{WaitsAt, waiting_of}
use Rattle.fa_ledger.specs.parts.ListingParts.{place_of, listed_shown, listing_by, ListsNew, ListsStill, ListsStillIfAny, IsNotedBy}
use Rattle.fa_ledger.specs.parts.Steps.{closed_once}
use Rattle.fa_ledger.proofs.HandleLemmas.{key_same, key_self, handle_is_one, since_open}
use Rattle.fa_ledger.proofs.CallStepLemmas.{call_waits}
use Rattle.fa_ledger.proofs.KeyLemmas.{open_is_some}
use Rattle.fa_ledger.proofs.NodeLemmas.{listed_few}
use Rattle.fa_ledger.proofs.SoFarLemmas.{lists_offset, lists_tree}
use Rattle.fa_ledger.proofs.ListingLemmas.{unlisted_places, closing_places, listed_places, late_places, empty_places, goes_on, reply_open}

-- ---- places that are alike

-- places that are alike are those of the same events
pub places_alike : (es : List PlainEvent) (old new : Key → ℕ → Option Place) → ((key : Key) (offset : ℕ) → new key offset ≡ old key offset) → ArePlaces es old → ArePlaces es new
places_alike es old new same are = record {
  «open» = λ key handle offset named. subst (IsPlaceOf es handle offset) (sym (same key offset)) (are.«open» key handle offset named);
  closed = λ key offset shut. same key offset ∙ are.closed key offset shut;
}

-- what the table shows has the places that the table has
found_shown : (test : Key → Bool) (offset : ℕ) (table : List (Key × Offsets))
    → option_and_then (λ offsets. lookup (nat_eq offset) offsets) (lookup test (listed_shown table)) ≡ option_and_then (λ offsets. lookup (nat_eq offset) offsets.places.entries) (lookup test table)
found_shown test offset [] = refl
found_shown test offset (row ∷ table) = found_row (test row.0) row (found_shown test offset table)
  where
    found_row : (b : Bool) (row : Key × Offsets)
        → option_and_then (λ offsets. lookup (nat_eq offset) offsets) (lookup test (listed_shown table)) ≡ option_and_then (λ offsets. lookup (nat_eq offset) offsets.places.entries) (lookup test table)
        → option_and_then (λ offsets. lookup (nat_eq offset) offsets) (cond b (Some row.1.places.entries) (lookup test (listed_shown table)))
        ≡ option_and_then (λ offsets. lookup (nat_eq offset) offsets.places.entries) (cond b (Some row.1) (lookup test table))
    found_row true row later = refl
    found_row false row later = later

pub place_shown : (table : List (Key × Offsets)) (key : Key) (offset : ℕ) → place_in (listed_shown table) key offset ≡ place_of table key offset
place_shown table key offset = found_shown (key_eq key) offset table

-- ---- keys that stay open

-- a key is open exactly where the table has it
open_found : (es : List PlainEvent) (key : Key) (x : Option Handle) → IsKeyOf es key x → IsOpen es key → x ≢ None
open_found es key None is stands none = omega (arith, is, stands)
open_found es key (Some h) is stands none = let clash : Some h ≡ None = none in absurd cc

found_open : (es : List PlainEvent) (key : Key) (x : Option Handle) → IsKeyOf es key x → x ≢ None → IsOpen es key
found_open es key None is some = absurd (some refl)
found_open es key (Some h) is some = open_is_some es key h is

-- a key that the table keeps stays open
open_stays : (es fs : List PlainEvent) (old new : List (Key × Handle)) → KeysShow es old → KeysShow fs new → (key : Key) → (lookup (key_eq key) old ≢ None → lookup (key_eq key) new ≢ None)
    → IsOpen es key → IsOpen fs key
open_stays es fs old new was is key stays stands =
    found_open fs key (lookup (key_eq key) new) (is key) (stays (open_found es key (lookup (key_eq key) old) (was key) stands))

-- ---- requests

asked_lists_nothing : (p : ℕ) (q : PlainRequest) (at asked : ℕ) (r : PlainRequest) (ds : List PlainDirent) → Asked p q ≡ Answered at asked r (Listed ds) → ⊥
asked_lists_nothing p q at asked r ds is = absurd cc

-- a request that keeps each key in the table leaves the places
pub places_asked : (c : List Message) (m : Message) (es : List PlainEvent) (at : ℕ) (r : PlainRequest) → AreEvents c es → IsEvent c m (Asked at r)
    → (old new : List (Key × Handle)) → KeysShow es old → KeysShow (es ++ Asked at r ∷ []) new → ((key : Key) → lookup (key_eq key) old ≢ None → lookup (key_eq key) new ≢ None)
    → (place : Key → ℕ → Option Place) → ArePlaces es place → ArePlaces (es ++ Asked at r ∷ []) place
places_asked c m es at r are is old new was now stays =
    unlisted_places c m es (Asked at r) are is (asked_lists_nothing at r) (λ key. open_stays es (es ++ Asked at r ∷ []) old new was now key (stays key))

-- a table in which a key is closed once has each other key as before
abbrev pub IsClosedOnce : Key → List (Key × Handle) → List (Key × Handle) → Type 0
IsClosedOnce key old new = (other : Key) → lookup (key_eq other) new ≡ cond (key_eq key other) (closed_once (lookup (key_eq key) old)) (lookup (key_eq other) old)

others_stay : (key other : Key) (old new : List (Key × Handle)) → IsClosedOnce key old new → key_eq key other ≡ false → lookup (key_eq other) new ≡ lookup (key_eq other) old
others_stay key other old new wrote test = wrote other ∙ (rw test refl)

own_left : (key : Key) (old new : List (Key × Handle)) → IsClosedOnce key old new → lookup (key_eq key) new ≡ closed_once (lookup (key_eq key) old)
own_left key old new wrote = wrote key ∙ (rw (key_self key) refl)

-- a closing that leaves an opening keeps each key
pub none_gone : (key : Key) (old new : List (Key × Handle)) → IsClosedOnce key old new → false ≡ is_none (closed_once (lookup (key_eq key) old))
    → (other : Key) → lookup (key_eq other) old ≢ None → lookup (key_eq other) new ≢ None
none_gone key old new wrote left other stood =
    elim (key_eq key other) as (λ b. key_eq key other ≡ b → lookup (key_eq other) new ≡ None → ⊥) [
      | true ↦ λ test gone.
          let same = key_same key other test in
          let none : closed_once (lookup (key_eq key) old) ≡ None = sym (own_left key old new wrote) ∙ subst (λ k. lookup (key_eq k) new ≡ None) (sym same) gone in
          let clash : false ≡ true = left ∙ ap is_none none in
          absurd cc
      | false ↦ λ test gone. stood (sym (others_stay key other old new wrote test) ∙ gone)
    ] refl

-- one that leaves none forgets the places of its key alone
pub places_closed : (c : List Message) (m : Message) (es : List PlainEvent) (at : ℕ) (r : PlainRequest) → AreEvents c es → IsEvent c m (Asked at r)
    → (key : Key) (old new : List (Key × Handle)) → KeysShow es old → KeysShow (es ++ Asked at r ∷ []) new → IsClosedOnce key old new → true ≡ is_none (closed_once (lookup (key_eq key) old))
    → (place after : Key → ℕ → Option Place) → ((other : Key) (offset : ℕ) → after other offset ≡ cond (key_eq key other) None (place other offset))
    → ArePlaces es place → ArePlaces (es ++ Asked at r ∷ []) after
places_closed c m es at r are is key old new was now wrote gone place after forgot places =
    closing_places c m es (Asked at r) are is (asked_lists_nothing at r) key
    (λ stands. open_found (es ++ Asked at r ∷ []) key (lookup (key_eq key) new) (now key) stands (own_left key old new wrote ∙ none_is (closed_once (lookup (key_eq key) old)) gone))
    (λ other test. open_stays es (es ++ Asked at r ∷ []) old new was now other (λ stood still. stood (sym (others_stay key other old new wrote test) ∙ still)))
    place after forgot places
  where
    none_is : (x : Option Handle) → true ≡ is_none x → x ≡ None
    none_is None is = refl
    none_is (Some h) is = let clash : true ≡ false = is in absurd cc

-- a request that lists uses a handle
lists_by_handle : (b : PlainBody) (offset : ℕ) → offset_asked b ≡ Some offset → handle_used b ≡ None → ⊥
lists_by_handle (Readdir r) offset asks none = absurd cc
lists_by_handle (Readdirplus r) offset asks none = absurd cc
lists_by_handle other offset asks none = absurd cc

-- what a request lists goes on from the place of its offset
pub listing_asked : (es : List PlainEvent) (r : PlainRequest) (opened : List (Key × Handle)) (used : Option Used) (place : Key → ℕ → Option Place) → IsUsedIfAny es r opened used → ArePlaces es place
    → IsListingIfAny es r (listing_by (offset_asked r.body) used place)
listing_asked es r opened used place uses places =
    elim (offset_asked r.body) as (λ o. offset_asked r.body ≡ o → IsListingIfAny es r (listing_by o used place)) [
      | None ↦ λ asks. asks
      | Some offset ↦ λ asks. listing_used offset used asks uses
    ] refl
  where
    listing_used : (offset : ℕ) (used : Option Used) → offset_asked r.body ≡ Some offset → IsUsedIfAny es r opened used → IsListingIfAny es r (listing_by (Some offset) used place)
    listing_used offset None asks uses = absurd (lists_by_handle r.body offset asks uses)
    listing_used offset (Some u) asks uses = goes_on es r offset u.key u.handle asks uses.key uses.«open» place places

-- ---- answers

-- what a reply lists, or that it lists nothing
lists_or_not : (reply : PlainReply) → ((ds : List PlainDirent) × (reply ≡ Listed ds)) ⊎ ((ds : List PlainDirent) → reply ≡ Listed ds → ⊥)
lists_or_not (Listed ds) = inl (ds, refl)
lists_or_not other = inr (λ ds is. absurd cc)

-- A call that lists, as the ledger knows it: its handle, where it begins, and what was listed so far.
record IsLister (before : List PlainEvent) (r : PlainRequest) (call : PlainCall) : Type 0 where
  handle : ℕ
  uses : UsesHandle before r handle
  named : call.handle ≡ Some handle
  began : ℕ
  begins : offset_asked r.body ≡ Some began
  adrift : (entries : List PlainDirent) × IsListedSoFar before handle began entries (waiting_of call).adrift

lister_handle : (es : List PlainEvent) (key : Option Key) (used : Key) (handle : ℕ) (x : Option ℕ) → key ≡ Some used → IsHandle es used handle → IsHandleUsed es key x → x ≡ Some handle
lister_handle es key used handle x is named has =
    let there : IsHandleUsed es (Some used) x = subst (λ k. IsHandleUsed es k x) is has in
    there.1 ∙ ap (λ n. Some n) (handle_is_one es used there.0 handle there.2 named)

lister : (before : List PlainEvent) (call : PlainCall) (r : PlainRequest) → IsAskedCall before r call → (offset : ℕ) → offset_asked r.body ≡ Some offset → IsLister before r call
lister before call r asked offset begins =
    elim call.listing as (λ l. call.listing ≡ l → IsListingIfAny before r l → IsLister before r call) [
      | None ↦ λ none nothing. let clash : None ≡ Some offset = sym nothing ∙ begins in absurd cc
      | Some l ↦ λ some listing. record {
        handle = listing.handle;
        uses = listing.uses;
        named = lister_handle before (key_used before r) listing.uses.key listing.handle call.handle listing.uses.used listing.uses.named asked.handle;
        began = listing.offset;
        begins = listing.asks;
        adrift = subst (λ (o : Option Listing). (entries : List PlainDirent) × IsListedSoFar before listing.handle listing.offset entries (option_map_or (λ x. x.adrift) o false)) (sym some) listing.adrift;
      }
    ] refl asked.listing

-- the key that a request uses, by its parts, and back
key_parts : (before : List PlainEvent) (id : ℕ) (name : NodeName) (h : Option (ℕ × HandleKind)) (key : Key) → name_at before id ≡ Some name → option_and_then (key_at before id) h ≡ Some key
    → (h ≡ Some (key.fh, key.kind)) × (key.node ≡ name)
key_parts before id name None key named is = let clash : None ≡ Some key = is in absurd cc
key_parts before id name (Some x) key named is =
    let make : NodeName → Key = λ n. record { node = n; fh = x.0; kind = x.1 } in
    let found : Some (make name) ≡ Some key = ap (option_map make) (sym named) ∙ is in
    let same : make name ≡ key = cc in
    (ap (λ k. Some (k.fh, k.kind)) same, sym (ap (λ k. k.node) same))

key_made : (before : List PlainEvent) (id : ℕ) (h : Option (ℕ × HandleKind)) (key : Key) → name_at before id ≡ Some key.node → h ≡ Some (key.fh, key.kind) → option_and_then (key_at before id) h ≡ Some key
key_made before id h key named is = rw (is, named) refl

-- a handle that is open is in the table under its name
handle_there : (es : List PlainEvent) (key : Key) (handle : ℕ) (x : Option Handle) → IsKeyOf es key x → IsHandle es key handle → (h : Handle) × (x ≡ Some h) × (h.name ≡ handle)
handle_there es key handle None is named = absurd (omega (arith, is, since_open es key named.since named.stands))
handle_there es key handle (Some h) is named = (h, refl, handle_is_one es key h.name handle is.named named)

there_handle : (es : List PlainEvent) (key : Key) (x : Option Handle) (h : Handle) → IsKeyOf es key x → x ≡ Some h → IsHandle es key h.name
there_handle es key x h is there =
    let stands : IsOpenAs es key h = subst (IsKeyOf es key) there is in
    stands.named

-- An answer that lists, and the call that waits for it.
record IsListingAnswer (c : List Message) (m : Message) (es : List PlainEvent) (at asked : ℕ) (r : PlainRequest) (call : PlainCall) (opened : List (Key × Handle)) (ds : List PlainDirent) : Type 0 where
  are : AreEvents c es
  event : IsEvent c m (Answered at asked r (Listed ds))
  lister : IsLister (take asked es) r call
  node : name_at (take asked es) r.node ≡ Some call.node
  keys : KeysShow es opened

-- the handle on which an answer lists still, as the call knows it
record IsStill (es : List PlainEvent) (asked : ℕ) (r : PlainRequest) (call : PlainCall) (by : IsLister (take asked es) r call) (key : Key) : Type 0 where
  key_is : key ≡ by.uses.key
  named : IsHandle es by.uses.key by.handle

-- where the request of a listing begins
answer_begins : (c : List Message) (m : Message) (at asked : ℕ) (r : PlainRequest) (ds : List PlainDirent) → IsEvent c m (Answered at asked r (Listed ds)) → (offset : ℕ) × (offset_asked r.body ≡ Some offset)
answer_begins c m at asked r ds e =
    elim e.2.body [
      | inl success ↦ lists_offset r.opcode r.body e.2.head.body_bytes ds success.1
      | inr refused ↦ let clash : Listed ds ≡ Refused e.2.error = refused.2 in absurd cc
    ]

-- an entry that passes a test, where some does
any_there : {X : Type 0} (test : X → Bool) (xs : List X) → list_any test xs ≡ true → (x : X) × Contains xs x × (test x ≡ true)
any_there test [] some = let clash : false ≡ true = some in absurd cc
any_there {X = X} test (y ∷ xs) some =
    elim (test y) as (λ b. test y ≡ b → (b || list_any test xs) ≡ true → (x : X) × Contains (y ∷ xs) x × (test x ≡ true)) [
      | true ↦ λ here any. (y, (0, omega arith, refl), here)
      | false ↦ λ here any.
          let later = any_there test xs any in
          let at = later.1 in
          (later.0, (suc at.0, omega (arith, at.1), at.2), later.2)
    ] refl some

-- where none stands for an offset, it was never reached
none_reached : (es : List PlainEvent) (handle offset : ℕ) (place : Option Place) → IsPlaceOf es handle offset place → is_none place ≡ true → IsNeverReached es handle offset
none_reached es handle offset None is none = is
none_reached es handle offset (Some p) is none = let clash : false ≡ true = none in absurd cc

-- an answer lists few entries
pub count_fits : (c : List Message) (m : Message) (at asked : ℕ) (r : PlainRequest) (reply : PlainReply) → IsEvent c m (Answered at asked r reply) → (opened : List (Key × Handle)) (call : PlainCall)
    → (l : ListedOn) → ListsStillIfAny opened (waiting_of call) r.body reply (Some l) → l.count ≤ 4294967295
count_fits c m at asked r reply event opened call l still =
    let ds = entries_left l.entries in
    let e : IsEvent c m (Answered at asked r (Listed ds)) = subst (λ (x : PlainReply). IsEvent c m (Answered at asked r x)) still.0.lists event in
    let request = e.1.outstanding.asked.2.1 in
    elim e.2.body [
      | inl success ↦ omega (arith, still.2, listed_few r.opcode r.body request.body_bytes e.2.head.body_bytes ds request.body success.1)
      | inr refused ↦ let clash : Listed ds ≡ Refused e.2.error = refused.2 in absurd cc
    ]

module _ (c : List Message) (m : Message) (es : List PlainEvent) (at asked : ℕ) (r : PlainRequest) where
  -- where nothing is noted
  listed_none : (call : PlainCall) (opened : List (Key × Handle)) (ds : List PlainDirent)
      → IsListingAnswer c m es at asked r call opened ds → ListsStillIfAny opened (waiting_of call) r.body (Listed ds) None
      → (place : Key → ℕ → Option Place) → ArePlaces es place → ArePlaces (es ++ Answered at asked r (Listed ds) ∷ []) place
  listed_none call opened [] is none place places = empty_places c m es at asked r is.are is.event place places
  listed_none call opened (d ∷ ds) is none place places =
      let by = is.lister in
      late_places c m es at asked r (d ∷ ds) is.are is.event by.handle by.uses
      (λ named.
      let parts = key_parts (take asked es) r.node call.node (handle_used r.body) by.uses.key is.node by.uses.used in
      let there = handle_there es by.uses.key by.handle (lookup (key_eq by.uses.key) opened) (is.keys by.uses.key) named in
      none by.uses.key (d ∷ ds) (record {
        lists = refl;
        some = λ empty. let clash : d ∷ ds ≡ [] = empty in absurd cc;
        used = parts.0;
        node = parts.1;
        handle = there.0;
        there = there.1;
        named = by.named ∙ ap (λ n. Some n) (sym there.2);
      }))
      place places

  still_named : (call : PlainCall) (opened : List (Key × Handle)) (ds entries : List PlainDirent) (key : Key)
      → (is : IsListingAnswer c m es at asked r call opened ds) → ListsStill opened (waiting_of call) r.body (Listed ds) key entries → IsStill es asked r call is.lister key
  still_named call opened ds entries key is still =
      let by = is.lister in
      let used : key_used (take asked es) r ≡ Some key = key_made (take asked es) r.node (handle_used r.body) key (is.node ∙ ap (λ n. Some n) (sym still.node)) still.used in
      let keys : Some key ≡ Some by.uses.key = sym used ∙ by.uses.used in
      let same : key ≡ by.uses.key = cc in
      let names : Some still.handle.name ≡ Some by.handle = sym still.named ∙ by.named in
      let one : still.handle.name ≡ by.handle = cc in
      record {
        key_is = same;
        named = subst (λ k. IsHandle es k by.handle) same (subst (IsHandle es key) one (there_handle es key (lookup (key_eq key) opened) still.handle (is.keys key) still.there));
      }

  listed_some : (call : PlainCall) (opened : List (Key × Handle)) (ds : List PlainDirent) (l : ListedOn)
      → IsListingAnswer c m es at asked r call opened ds → ListsStillIfAny opened (waiting_of call) r.body (Listed ds) (Some l)
      → (old new : List (Key × Offsets)) → IsNotedBy asked (Some l) old new → ArePlaces es (place_of old) → ArePlaces (es ++ Answered at asked r (Listed ds) ∷ []) (place_of new)
  listed_some call opened ds l is still old new noted_so places =
      let by = is.lister in
      let on = still_named call opened ds (entries_left l.entries) l.key is still.0 in
      let lists : Listed ds ≡ Listed (entries_left l.entries) = still.0.lists in
      let entries : entries_left l.entries ≡ ds = cc in
      listed_places c m es at asked r ds is.are is.event by.handle by.began (waiting_of call).adrift by.uses on.named by.begins by.adrift (place_of old) (place_of new)
      (λ key offset. noted_so key offset ∙ (rw (on.key_is, still.1, entries) refl))
      places

  listed_either : (call : PlainCall) (opened : List (Key × Handle)) (ds : List PlainDirent)
      → IsListingAnswer c m es at asked r call opened ds → (listed : Option ListedOn) → ListsStillIfAny opened (waiting_of call) r.body (Listed ds) listed
      → (old new : List (Key × Offsets)) → IsNotedBy asked listed old new → ArePlaces es (place_of old) → ArePlaces (es ++ Answered at asked r (Listed ds) ∷ []) (place_of new)
  listed_either call opened ds is None none old new same places =
      places_alike (es ++ Answered at asked r (Listed ds) ∷ []) (place_of old) (place_of new) same (listed_none call opened ds is none (place_of old) places)
  listed_either call opened ds is (Some l) still old new noted_so places = listed_some call opened ds l is still old new noted_so places

  -- an answer that lists nothing
  unlisted : (reply : PlainReply) → AreEvents c es → IsEvent c m (Answered at asked r reply)
      → ((ds : List PlainDirent) → reply ≡ Listed ds → ⊥) → (place : Key → ℕ → Option Place) → ArePlaces es place → ArePlaces (es ++ Answered at asked r reply ∷ []) place
  unlisted reply are event nothing =
      unlisted_places c m es (Answered at asked r reply) are event (λ n p q ds is. let lists : reply ≡ Listed ds = cc in nothing ds lists) (reply_open es at asked r reply)

  unlisted_either : (reply : PlainReply) → AreEvents c es → IsEvent c m (Answered at asked r reply)
      → ((ds : List PlainDirent) → reply ≡ Listed ds → ⊥) → (call : PlainCall) (opened : List (Key × Handle)) (listed : Option ListedOn) → ListsStillIfAny opened (waiting_of call) r.body reply listed
      → (old new : List (Key × Offsets)) → IsNotedBy asked listed old new → ArePlaces es (place_of old) → ArePlaces (es ++ Answered at asked r reply ∷ []) (place_of new)
  unlisted_either reply are event nothing call opened None none old new same places =
      places_alike (es ++ Answered at asked r reply ∷ []) (place_of old) (place_of new) same (unlisted reply are event nothing (place_of old) places)
  unlisted_either reply are event nothing call opened (Some l) still old new noted_so places = absurd (nothing (entries_left l.entries) still.0.lists)

  -- the call that waits for an answer that lists
  answer_listing : (ds : List PlainDirent) → AreEvents c es → IsEvent c m (Answered at asked r (Listed ds))
      → (calls : List PlainCall) → AreCallsOf es calls → (k : ℕ) (call : PlainCall) → WaitsAt calls asked k call → (opened : List (Key × Handle)) → KeysShow es opened
      → IsListingAnswer c m es at asked r call opened ds
  answer_listing ds are event calls exact k call waits opened keys =
      let w = call_waits c m es are at asked r (Listed ds) event calls exact k call waits.there waits.numbered in
      let begins = answer_begins c m at asked r ds event in
      record { are = are; event = event; lister = lister (take asked es) call r w.1 begins.0 begins.1; node = w.1.node; keys = keys }

  -- the places after an answer
  pub places_answered : (reply : PlainReply) → AreEvents c es → IsEvent c m (Answered at asked r reply)
      → (calls : List PlainCall) → AreCallsOf es calls → (k : ℕ) (call : PlainCall) → WaitsAt calls asked k call → (opened : List (Key × Handle)) → KeysShow es opened
      → (listed : Option ListedOn) → ListsStillIfAny opened (waiting_of call) r.body reply listed
      → (old new : List (Key × Offsets)) → IsNotedBy asked listed old new → ArePlaces es (place_of old) → ArePlaces (es ++ Answered at asked r reply ∷ []) (place_of new)
  places_answered reply are event calls exact k call waits opened keys listed still old new noted_so places =
      elim (lists_or_not reply) [
        | inl lists ↦
            subst (λ (x : PlainReply). IsEvent c m (Answered at asked r x) → ListsStillIfAny opened (waiting_of call) r.body x listed → ArePlaces (es ++ Answered at asked r x ∷ []) (place_of new)) (sym lists.1)
            (λ e stands. listed_either call opened lists.0 (answer_listing lists.0 are e calls exact k call waits opened keys) listed stands old new noted_so places)
            event still
        | inr nothing ↦ unlisted_either reply are event nothing call opened listed still old new noted_so places
      ]

  -- the places after an answer to which no call waits: it lists nothing
  pub places_replied : (reply : PlainReply) → AreEvents c es → IsEvent c m (Answered at asked r reply) → (IsTreeRequest r.body → ⊥)
      → (place : Key → ℕ → Option Place) → ArePlaces es place → ArePlaces (es ++ Answered at asked r reply ∷ []) place
  places_replied reply are event no_tree =
      unlisted reply are event
      (λ ds lists.
      let e : IsEvent c m (Answered at asked r (Listed ds)) = subst (λ (x : PlainReply). IsEvent c m (Answered at asked r x)) lists event in
      let begins = answer_begins c m at asked r ds e in
      no_tree (lists_tree r.body begins.0 begins.1))

  -- what is noted is more to be kept
  pub lists_on : (reply : PlainReply) → AreEvents c es → IsEvent c m (Answered at asked r reply)
      → (calls : List PlainCall) → AreCallsOf es calls → (k : ℕ) (call : PlainCall) → WaitsAt calls asked k call → (opened : List (Key × Handle)) → KeysShow es opened
      → (l : ListedOn) → ListsStillIfAny opened (waiting_of call) r.body reply (Some l) → (table : List (Key × Offsets)) → ArePlaces es (place_of table) → ListsNew table (Some l)
      → ListsOn es asked r reply
  lists_on reply are event calls exact k call waits opened keys l still table places new =
      let ds = entries_left l.entries in
      let lists : reply ≡ Listed ds = still.0.lists in
      let e : IsEvent c m (Answered at asked r (Listed ds)) = subst (λ (x : PlainReply). IsEvent c m (Answered at asked r x)) lists event in
      let there : ListsStill opened (waiting_of call) r.body (Listed ds) l.key ds = subst (λ (x : PlainReply). ListsStill opened (waiting_of call) r.body x l.key ds) lists still.0 in
      let is = answer_listing ds are e calls exact k call waits opened keys in
      let on = still_named call opened ds ds l.key is there in
      let entry = any_there (λ d. is_none (place_of table l.key d.off)) ds new in
      let none : is_none (place_of table is.lister.uses.key entry.0.off) ≡ true = subst (λ key. is_none (place_of table key entry.0.off) ≡ true) on.key_is entry.2 in
      record {
        entries = ds;
        lists = lists;
        handle = is.lister.handle;
        uses = is.lister.uses;
        «open» = on.named;
        entry = entry.0;
        listed = entry.1;
        new = none_reached es is.lister.handle entry.0.off _ (places.«open» is.lister.uses.key is.lister.handle entry.0.off on.named) none;
      }
