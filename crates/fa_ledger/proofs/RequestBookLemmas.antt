-- A request that is noted in the books: what it leaves, what it takes, what it closes and what it adds.
use Rattle.std.proofs.Common.{◌≡◌, ℕ, Bool, true, false, cond, List, [], ◌∷◌, ◌++◌, length, Option, None, Some, refl, sym, ap, subst, ◌∙◌, inl, inr}
use Rattle.std.specs.Prelude.{◌↔◌, nat_eq, IsTrue, MatchOption, IsSomeAnd, is_none, slice_get, option_map, option_and_then}
use Rattle.std.specs.Map.{lookup}
use Rattle.fa_capture.specs.Message.{Message}
use Rattle.fa_capture.proofs.CallerLemmas.{get_kept, get_back, get_cases}
use Rattle.fa_bodies.specs.FlagBits.{atomic_o_trunc}
use Rattle.fa_bodies.specs.Requests.{PlainRequest, PlainBody}
use Rattle.fa_bodies.specs.Replies.PlainReply.{InitAnswer}
use Rattle.fa_session.specs.Events.{PlainEvent}
use Rattle.fa_session.specs.Events.PlainEvent.{Asked, Answered}
use Rattle.fa_ledger.specs.declared.books.Books.{Books}
use Rattle.fa_ledger.specs.declared.tables.Names.{Names}
use Rattle.fa_ledger.specs.declared.tables.Used.{Used}
use Rattle.fa_ledger.specs.declared.call.Listing.{Listing}
use Rattle.fa_ledger.specs.declared.call_book.CallBook.{CallBook}
use Rattle.fa_ledger.specs.declared.handles.Handle.{Handle}
use Rattle.fa_ledger.specs.declared.handles.Handles.{Handles}
use Rattle.fa_ledger.specs.declared.key.Key.{Key}
use Rattle.fa_ledger.specs.declared.listings.Listings.{Listings}
use Rattle.fa_ledger.specs.declared.listings.Place.{Place}
use Rattle.fa_ledger.specs.declared.name.NodeName.{NodeName}
use Rattle.fa_ledger.specs.declared.nodes.Nodes.{Nodes}
use Rattle.fa_ledger.specs.Mentions.{mentions}
use Rattle.fa_ledger.specs.Counts.{request_takes, total_taken}
use Rattle.fa_ledger.specs.Names.{name_at, nodes_named}
use Rattle.fa_ledger.specs.Keys.{key_eq, key_at, key_used}
use Rattle.fa_ledger.specs.Kinds.{IsTreeRequest}
use Rattle.fa_ledger.specs.Handles.{is_closing, IsDirect}
use Rattle.fa_ledger.specs.Operations.{PlainOperation, operation_of}
use Rattle.fa_ledger.proofs.OperationLemmas.{operation_asked}
use Rattle.fa_ledger.specs.Calls.{PlainCall, IsNegotiatedFlag, Truncates, IsHandleUsed, IsMark, IsAskedCall, AreCallsOf}
use Rattle.fa_ledger.specs.Listings.{IsListingIfAny, offset_asked}
use Rattle.fa_ledger.specs.Shows.{ArePlaces}
use Rattle.fa_ledger.specs.parts.ListingParts.{place_of, listing_by}
use Rattle.fa_ledger.specs.parts.RowParts.{AreNotBoth}
use Rattle.fa_ledger.specs.parts.TableParts.{AreNames, IsUsed, IsUsedIfAny}
use Rattle.fa_ledger.specs.parts.BookParts.{BooksShow, Stands}
use Rattle.fa_ledger.specs.parts.Steps.{closed_once, but_root, IsTakenFrom}
use Rattle.fa_ledger.proofs.PlaceBookLemmas.{places_asked, places_closed, none_gone, listing_asked, IsClosedOnce}
use Rattle.fa_ledger.proofs.RequestLemmas.{NamesNone, names_none, tree_not_closing, nodes_kept, nodes_taken, keys_kept, keys_closed}
use Rattle.fa_ledger.proofs.CallStepLemmas.{calls_kept, calls_asked}

-- what follows of a value, and else what holds of none
pub match_then : {A : Type 0} (o : Option A) (P : Type 0) {Q : A → Type 0} (R : A → Type 0) → MatchOption o P Q → ((x : A) → Q x → R x) → MatchOption o P R
match_then None P R is follows = is
match_then (Some x) P R is follows = follows x is

-- a request that lists names one node
names_one : (node : ℕ) (b : PlainBody) (offset : ℕ) → offset_asked b ≡ Some offset → slice_get ((mentions b).names node) 1 ≡ None
names_one node (PlainBody.Readdir r) offset asks = refl
names_one node (PlainBody.Readdirplus r) offset asks = refl
names_one node other offset asks = absurd cc

pub listing_apart : (es : List PlainEvent) (r : PlainRequest) (names : Names) (used : Option Used) (place : Key → ℕ → Option Place) → AreNames es r names → AreNotBoth names.other (listing_by (offset_asked r.body) used place)
listing_apart es r names used place are = by names.other are.other (offset_asked r.body) refl
  where
    by : (other : Option NodeName) → option_map (λ node. name_at es node) (slice_get (nodes_named r) 1) ≡ option_map (λ name. Some name) other → (asked : Option ℕ) → offset_asked r.body ≡ asked
        → AreNotBoth other (listing_by asked used place)
    by None is asked asks = tt
    by (Some other) is None asks = tt
    by (Some other) is (Some offset) asks =
        let clash : None ≡ Some (Some other) = sym (ap (option_map (λ node. name_at es node)) (names_one r.node r.body offset asks)) ∙ is in
        absurd cc

-- ---- what any request leaves

-- the flags of INIT
flag_kept : (es : List PlainEvent) (at : ℕ) (r : PlainRequest) (flag : ℕ) → IsNegotiatedFlag (es ++ Asked at r ∷ []) flag ↔ IsNegotiatedFlag es flag
flag_kept es at r flag = (
  λ is. elim (get_cases es (Asked at r) is.0 (Answered is.0 is.1 is.2 (InitAnswer is.4)) is.5) [
    | inl below ↦ (is.0, is.1, is.2, is.3, is.4, get_back es (Asked at r ∷ []) is.0 (Answered is.0 is.1 is.2 (InitAnswer is.4)) below is.5, is.6, is.7, is.8)
    | inr now ↦ let clash : Answered is.0 is.1 is.2 (InitAnswer is.4) ≡ Asked at r = now.1 in absurd cc
  ],
  λ is. (is.0, is.1, is.2, is.3, is.4, get_kept es (Asked at r ∷ []) is.0 (Answered is.0 is.1 is.2 (InitAnswer is.4)) is.5, is.6, is.7, is.8),
)

mark_kept : (es : List PlainEvent) (at : ℕ) (r : PlainRequest) (flag : ℕ) (mark : Bool) → IsTrue mark ↔ IsNegotiatedFlag es flag → IsTrue mark ↔ IsNegotiatedFlag (es ++ Asked at r ∷ []) flag
mark_kept es at r flag mark is =
    let kept = flag_kept es at r flag in
    (λ marked. kept.1 (is.0 marked), λ has. is.1 (kept.0 has))

-- the calls, where it is no tree request
others_kept : (es : List PlainEvent) (at : ℕ) (r : PlainRequest) (calls : List PlainCall) → (IsTreeRequest r.body → ⊥) → AreCallsOf es calls → AreCallsOf (es ++ Asked at r ∷ []) calls
others_kept es at r calls no_tree are =
    calls_kept es (Asked at r) calls are
    (λ p s same tree. no_tree (let requests : s ≡ r = cc in subst (λ (q : PlainRequest). IsTreeRequest q.body) requests tree))
    (λ n p s reply same tree. absurd cc)

-- ---- a tree request

-- the handle that a call names is the one that its request uses
handle_named : (es : List PlainEvent) (r : PlainRequest) (opened : List (Key × Handle)) (used : Option Used) (handle : Option ℕ) → IsUsedIfAny es r opened used
    → MatchOption used (handle ≡ None) (λ u. IsSomeAnd handle (λ name. name ≡ u.handle.name)) → IsHandleUsed es (key_used es r) handle
handle_named es r opened None handle is has =
    let none : key_used es r ≡ None = ap (option_and_then (key_at es r.node)) is in
    subst (λ k. IsHandleUsed es k handle) (sym none) has
handle_named es r opened (Some used) None is has = absurd has
handle_named es r opened (Some used) (Some name) is has =
    subst (λ k. IsHandleUsed es k (Some name)) (sym is.key) (used.handle.name, ap (λ n. Some n) has, is.«open».named)

-- its mark is that of this handle
direct_marked : (es : List PlainEvent) (r : PlainRequest) (opened : List (Key × Handle)) (used : Option Used) (direct : Bool) → IsUsedIfAny es r opened used
    → MatchOption used (direct ≡ false) (λ u. direct ≡ u.handle.direct) → IsMark (IsDirect es) (key_used es r) direct
direct_marked es r opened None direct is has =
    let none : key_used es r ≡ None = ap (option_and_then (key_at es r.node)) is in
    subst (λ k. IsMark (IsDirect es) k direct) (sym none) has
direct_marked es r opened (Some used) direct is has =
    let mark : IsTrue direct ↔ IsDirect es used.key = subst (λ d. IsTrue d ↔ IsDirect es used.key) (sym has) is.«open».direct in
    subst (λ k. IsMark (IsDirect es) k direct) (sym is.key) mark

-- the call that a tree request adds
abbrev pub new_call : ℕ → PlainOperation → Names → Option ℕ → Bool → Bool → Option Listing → PlainCall
new_call at o names handle direct truncates listing = record {
  asked = at;
  operation = o;
  node = names.node;
  other = names.other;
  handle = handle;
  direct = direct;
  truncates = truncates;
  listing = listing;
  answer = None;
}

-- ---- the books behind a request that names nodes

module _ (c : List Message) (m : Message) (es : List PlainEvent) (at : ℕ) (r : PlainRequest) (b : Books) where
  -- the places, where it closes nothing
  places_kept : Stands c m es (Asked at r) b → is_closing r.body ≡ false
      → ArePlaces (es ++ Asked at r ∷ []) (place_of b.listings.by_key.entries)
  places_kept stands leaves =
      let opened = b.tables.handles.opened.entries in
      places_asked c m es at r stands.are stands.event opened opened stands.shown.keys (keys_kept es at r opened leaves stands.shown.keys) (λ key stood. stood) (place_of b.listings.by_key.entries) stands.shown.places

  -- one that is no tree request and closes nothing leaves them as they are
  pub shows_left : request_takes r ≡ [] → is_closing r.body ≡ false → (IsTreeRequest r.body → ⊥) → Stands c m es (Asked at r) b
      → BooksShow (es ++ Asked at r ∷ []) b
  shows_left none leaves no_tree stands = let shown = stands.shown in record {
    truncating = mark_kept es at r atomic_o_trunc b.truncating shown.truncating;
    nodes = nodes_kept es at r b.tables.nodes.known.entries none shown.nodes;
    keys = keys_kept es at r b.tables.handles.opened.entries leaves shown.keys;
    places = places_kept stands leaves;
    calls = others_kept es at r b.calls.calls no_tree shown.calls;
  }

  -- a closing closes its key once, which stays open
  pub shows_closed : (handles : Handles) (used : Used) → request_takes r ≡ [] → is_closing r.body ≡ true → (IsTreeRequest r.body → ⊥)
      → IsUsed es r b.tables.handles.opened.entries used → IsClosedOnce used.key b.tables.handles.opened.entries handles.opened.entries
      → false ≡ is_none (closed_once (lookup (key_eq used.key) b.tables.handles.opened.entries))
      → Stands c m es (Asked at r) b → BooksShow (es ++ Asked at r ∷ []) (record b { tables = record b.tables { handles = handles } })
  shows_closed handles used none closes no_tree is wrote left stands =
      let shown = stands.shown in
      let old = b.tables.handles.opened.entries in
      let new = handles.opened.entries in
      let keys = keys_closed es at r old new used closes is wrote shown.keys in
      record {
        truncating = mark_kept es at r atomic_o_trunc b.truncating shown.truncating;
        nodes = nodes_kept es at r b.tables.nodes.known.entries none shown.nodes;
        keys = keys;
        places = places_asked c m es at r stands.are stands.event old new shown.keys keys (none_gone used.key old new wrote left) (place_of b.listings.by_key.entries) shown.places;
        calls = others_kept es at r b.calls.calls no_tree shown.calls;
      }

  -- or which is closed for good: then its places are forgotten
  pub shows_gone : (handles : Handles) (listings : Listings) (used : Used) → request_takes r ≡ [] → is_closing r.body ≡ true → (IsTreeRequest r.body → ⊥)
      → IsUsed es r b.tables.handles.opened.entries used → IsClosedOnce used.key b.tables.handles.opened.entries handles.opened.entries
      → true ≡ is_none (closed_once (lookup (key_eq used.key) b.tables.handles.opened.entries))
      → ((other : Key) (offset : ℕ) → place_of listings.by_key.entries other offset ≡ cond (key_eq used.key other) None (place_of b.listings.by_key.entries other offset))
      → Stands c m es (Asked at r) b → BooksShow (es ++ Asked at r ∷ []) (record b { tables = record b.tables { handles = handles }; listings = listings })
  shows_gone handles listings used none closes no_tree is wrote gone forgot stands =
      let shown = stands.shown in
      let old = b.tables.handles.opened.entries in
      let new = handles.opened.entries in
      let keys = keys_closed es at r old new used closes is wrote shown.keys in
      record {
        truncating = mark_kept es at r atomic_o_trunc b.truncating shown.truncating;
        nodes = nodes_kept es at r b.tables.nodes.known.entries none shown.nodes;
        keys = keys;
        places = places_closed c m es at r stands.are stands.event used.key old new shown.keys keys wrote gone (place_of b.listings.by_key.entries) (place_of listings.by_key.entries) forgot shown.places;
        calls = others_kept es at r b.calls.calls no_tree shown.calls;
      }

  -- a tree request is one more call
  pub shows_called : (o : PlainOperation) (names : Names) (used : Option Used) (handle : Option ℕ) (direct truncates : Bool) (listing : Option Listing) (calls : CallBook)
      → Stands c m es (Asked at r) b → AreNames es r names → IsUsedIfAny es r b.tables.handles.opened.entries used → request_takes r ≡ [] → operation_of r.body None ≡ Some o
      → MatchOption used (handle ≡ None) (λ u. IsSomeAnd handle (λ name. name ≡ u.handle.name)) → MatchOption used (direct ≡ false) (λ u. direct ≡ u.handle.direct)
      → ((before : List PlainEvent) → IsTrue b.truncating ↔ IsNegotiatedFlag before atomic_o_trunc → IsTrue truncates ↔ Truncates before r.body)
      → listing ≡ listing_by (offset_asked r.body) used (place_of b.listings.by_key.entries)
      → calls.calls ≡ b.calls.calls ++ new_call at o names handle direct truncates listing ∷ []
      → BooksShow (es ++ Asked at r ∷ []) (record b { calls = calls })
  shows_called o names used handle direct truncates listing calls stands are uses none does named marked empties further pushed =
      let tree : IsTreeRequest r.body = operation_asked r.body None o does in
      let number : at ≡ length es = stands.event.0 ∙ sym stands.are.counted in
      let call : PlainCall = new_call at o names handle direct truncates listing in
      let says : IsAskedCall es r call = record {
        tree = tree;
        node = are.node;
        other = are.other;
        handle = handle_named es r b.tables.handles.opened.entries used handle uses named;
        direct = direct_marked es r b.tables.handles.opened.entries used direct uses marked;
        truncates = empties es stands.shown.truncating;
        listing = subst (IsListingIfAny es r) (sym further) (listing_asked es r b.tables.handles.opened.entries used (place_of b.listings.by_key.entries) uses stands.shown.places);
      } in
      let more : AreCallsOf (es ++ Asked (length es) r ∷ []) (b.calls.calls ++ call ∷ []) = calls_asked c es stands.are r b.calls.calls call stands.shown.calls number does refl says in
      record {
        truncating = mark_kept es at r atomic_o_trunc b.truncating stands.shown.truncating;
        nodes = nodes_kept es at r b.tables.nodes.known.entries none stands.shown.nodes;
        keys = keys_kept es at r b.tables.handles.opened.entries (tree_not_closing r.body tree) stands.shown.keys;
        places = places_kept stands (tree_not_closing r.body tree);
        calls = subst (λ n. AreCallsOf (es ++ Asked n r ∷ []) calls.calls) (sym number) (subst (AreCallsOf (es ++ Asked (length es) r ∷ [])) (sym pushed) more);
      }

  -- ---- requests that take, and name no nodes

  -- the books behind a request that takes these items
  pub shows_taken : (nodes : Nodes) (items : List (ℕ × ℕ)) → nodes_named r ≡ [] → request_takes r ≡ but_root items
      → ((node : ℕ) → IsTakenFrom (total_taken node (but_root items)) (lookup (nat_eq node) b.tables.nodes.known.entries) (lookup (nat_eq node) nodes.known.entries))
      → Stands c m es (Asked at r) b → BooksShow (es ++ Asked at r ∷ []) (record b { tables = record b.tables { nodes = nodes } })
  shows_taken nodes items none takes took stands =
      let shown = stands.shown in
      let is : NamesNone r.body = names_none r.node r.body none in
      record {
        truncating = mark_kept es at r atomic_o_trunc b.truncating shown.truncating;
        nodes = nodes_taken es at r b.tables.nodes.known.entries nodes.known.entries items takes took shown.nodes;
        keys = keys_kept es at r b.tables.handles.opened.entries is.leaves shown.keys;
        places = places_kept stands is.leaves;
        calls = others_kept es at r b.calls.calls is.no_tree shown.calls;
      }

  -- and leaves the books as they are
  pub none_shows : nodes_named r ≡ [] → request_takes r ≡ [] → Stands c m es (Asked at r) b → BooksShow (es ++ Asked at r ∷ []) b
  none_shows none takes stands =
      let is : NamesNone r.body = names_none r.node r.body none in
      shows_left takes is.leaves is.no_tree stands
