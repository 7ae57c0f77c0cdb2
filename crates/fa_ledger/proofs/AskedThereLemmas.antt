-- A tree request of good messages has what its call says of it. Whether a mark stands, and whether a reply has an entry with
-- an offset, is not decided here.
use Rattle.std.proofs.Common.{◌≡◌, ◌≢◌, ℕ, zero, suc, Bool, true, false, List, length, take, Option, None, Some, refl, ap, subst, inl, inr, arith}
use Rattle.std.specs.Prelude.{◌↔◌, IsTrue, slice_get, option_map}
use Rattle.fa_bodies.specs.declared.handles.OpenOut.{OpenOut}
use Rattle.fa_bodies.specs.Requests.{PlainRequest, PlainBody}
use Rattle.fa_bodies.specs.Requests.PlainBody.{Forget, Release, Flush, Init, Readdir, Releasedir, BatchForget, Readdirplus, Passed}
use Rattle.fa_bodies.specs.Replies.{PlainReply}
use Rattle.fa_capture.specs.Message.{Message}
use Rattle.fa_session.specs.Events.{PlainEvent}
use Rattle.fa_session.specs.Events.PlainEvent.{Asked, Answered, Notice}
use Rattle.fa_ledger.specs.declared.call.Listing.{Listing}
use Rattle.fa_ledger.specs.declared.key.HandleKind.{HandleKind}
use Rattle.fa_ledger.specs.declared.key.HandleKind.TheVariants.{Directory}
use Rattle.fa_ledger.specs.declared.key.Key.{Key}
use Rattle.fa_ledger.specs.declared.name.NodeName.{NodeName}
use Rattle.fa_ledger.specs.declared.name.NodeName.TheVariants.{Root, Given}
use Rattle.fa_ledger.specs.Events.{AreEvents}
use Rattle.fa_ledger.specs.Counts.{IsKnown}
use Rattle.fa_ledger.specs.Kinds.{IsTreeRequest}
use Rattle.fa_ledger.specs.Mentions.{mentions}
use Rattle.fa_ledger.specs.Names.{name_at, nodes_named}
use Rattle.fa_ledger.specs.Keys.{handle_used, key_used}
use Rattle.fa_ledger.specs.Handles.{opening, IsOpen, IsHandle, IsShared, IsDirect}
use Rattle.fa_ledger.specs.Listings.{UsesHandle, GoesOnFrom, IsListingIfAny, offset_asked}
use Rattle.fa_ledger.specs.Calls.{PlainCall, IsHandleUsed, IsMark, IsAskedCall, Truncates}
use Rattle.fa_ledger.specs.Passing.{AreGood, NamesKnown, UsesOpen}
use Rattle.fa_ledger.proofs.NodeLemmas.{root_or_not}
use Rattle.fa_ledger.proofs.GrowthLemmas.{counted_named}
use Rattle.fa_ledger.proofs.GoodLemmas.{KeepsRules, used_open, open_since}
use Rattle.fa_ledger.proofs.CallStepLemmas.{answered_place}
use Rattle.fa_ledger.proofs.ListedThereLemmas.{last_there, listed_is_there}
use Rattle.fa_ledger.specs.Operations.{operation_of}
use Rattle.fa_ledger.proofs.OperationLemmas.{unanswered_there}
use Rattle.fa_ledger.proofs.BalanceLemmas.{all_there}

-- ---- marks

-- a fact has never no mark
pub mark_there : (P : Type 0) → ((mark : Bool) → IsTrue mark ↔ P → ⊥) → ⊥
mark_there P none =
    let fails : ¬ P = λ holds. none true ((λ stands. holds), (λ fact. refl)) in
    none false ((λ clash. absurd cc), (λ fact. absurd (fails fact)))

mark_used : (Such : Key → Type 0) (key : Option Key) → ((mark : Bool) → IsMark Such key mark → ⊥) → ⊥
mark_used Such None none = none false refl
mark_used Such (Some key) none = mark_there (Such key) none

-- ---- nodes

-- a node that is known has a name
known_name : (es : List PlainEvent) (node : ℕ) → IsKnown es node → (name : NodeName) × (name_at es node ≡ Some name)
known_name es node known =
    elim (root_or_not node) [
      | inl root ↦ (Root, rw root refl)
      | inr other ↦ elim known [
        | inl root ↦ absurd (other root)
        | inr counted ↦ let named = counted_named es node other counted in (Given named.0 node, named.1)
      ]
    ]

-- a tree request names the node of its header first
names_first : (node : ℕ) (b : PlainBody) → IsTreeRequest b → slice_get ((mentions b).names node) 0 ≡ Some node
names_first node (Forget nlookup) tree = absurd cc
names_first node (Release r) tree = absurd cc
names_first node (Flush f) tree = absurd cc
names_first node (Init i) tree = absurd cc
names_first node (Releasedir r) tree = absurd cc
names_first node (BatchForget count items) tree = absurd cc
names_first node Passed tree = absurd cc
names_first node other tree = refl

-- and its second node, if it names one, has a name
second_name : (es : List PlainEvent) (r : PlainRequest) → NamesKnown es r → (second : Option ℕ) → slice_get (nodes_named r) 1 ≡ second
    → (other : Option NodeName) × (option_map (λ node. name_at es node) second ≡ option_map (λ name. Some name) other)
second_name es r known None is = (None, refl)
second_name es r known (Some node) is =
    let named = known_name es node (all_there (IsKnown es) (nodes_named r) 1 node known is) in
    (Some named.0, ap (λ x. Some x) named.1)

-- ---- handles

-- only an answer opens
opening_answered : (before : List PlainEvent) (e : PlainEvent) (which : Key × OpenOut) → opening before e ≡ Some which
    → (at p : ℕ) × (r : PlainRequest) × (reply : PlainReply) × (e ≡ Answered at p r reply)
opening_answered before (Asked at r) which is = absurd cc
opening_answered before (Answered at p r reply) which is = (at, p, r, reply, refl)
opening_answered before (Notice at) which is = absurd cc

-- the facts stand: events of good messages
module _ (c : List Message) (es : List PlainEvent) (are : AreEvents c es) (good : AreGood c) where
  -- an open key has a handle
  handle_there : (key : Key) → IsOpen es key → (name : ℕ) × IsHandle es key name
  handle_there key stands =
      let since = open_since c es are good key stands in
      let opened = since.1.opened in
      let answer = opening_answered (take since.0 es) opened.0 (key, since.1.out) opened.2 in
      let there : slice_get es since.0 ≡ Some (Answered answer.0 answer.1 answer.2 answer.3) = subst (λ e. slice_get es since.0 ≡ Some e) answer.4 opened.1 in
      let place = answered_place c es are since.0 answer.0 answer.1 answer.2 answer.3 there in (
        answer.1,
        record {
          since = since.0;
          stands = since.1;
          request = answer.2;
          reply = answer.3;
          answer = subst (λ n. slice_get es since.0 ≡ Some (Answered n answer.1 answer.2 answer.3)) place there;
        },
      )

  -- the handle that a request uses has a name, if it uses one
  used_there : (r : PlainRequest) → UsesOpen es r → (key : Option Key) → key_used es r ≡ key → (handle : Option ℕ) × IsHandleUsed es key handle
  used_there r uses None is = (None, refl)
  used_there r uses (Some key) is = let handle = handle_there key (used_open es r key uses is) in (Some handle.0, (handle.0, refl, handle.1))

  -- ---- listings

  -- a request that lists uses a handle
  lists_handle : (b : PlainBody) (offset : ℕ) → offset_asked b ≡ Some offset → (handle : ℕ × HandleKind) × (handle_used b ≡ Some handle)
  lists_handle (Readdir r) offset is = ((r.fh, Directory), refl)
  lists_handle (Readdirplus r) offset is = ((r.fh, Directory), refl)
  lists_handle b offset is = absurd cc

  lists_key : (r : PlainRequest) (name : NodeName) (offset : ℕ) → name_at es r.node ≡ Some name → offset_asked r.body ≡ Some offset → (key : Key) × (key_used es r ≡ Some key)
  lists_key r name offset named is =
      let handle = lists_handle r.body offset is in
      (record { node = name; fh = handle.0.0; kind = handle.0.1 }, rw (handle.1, named) refl)

  -- there is what an offset goes on from
  goes_there : (handle offset : ℕ) → ((before : Option (ℕ × ℕ)) → GoesOnFrom es handle offset before → ⊥) → ⊥
  goes_there handle zero none = none None (λ away. absurd (away refl))
  goes_there handle (suc k) none =
      let away : suc k ≢ 0 = λ is. omega (arith, is) in
      none None (λ other part reaches.
      last_there es handle (suc k) (length es) part reaches (omega arith) (λ last is. none (Some (last.asked, last.count)) (away, (last, is, refl))))

  -- there is the listing of a request
  listing_there : (r : PlainRequest) (name : NodeName) → name_at es r.node ≡ Some name → UsesOpen es r → (offset : Option ℕ) → offset_asked r.body ≡ offset
      → ((listing : Option Listing) → IsListingIfAny es r listing → ⊥) → ⊥
  listing_there r name named uses None is none = none None is
  listing_there r name named uses (Some offset) is none =
      let key = lists_key r name offset named is in
      let handle = handle_there key.0 (used_open es r key.0 uses key.1) in
      let use_it : UsesHandle es r handle.0 = record { key = key.0; used = key.1; named = handle.1 } in
      goes_there handle.0 offset (λ before goes.
      listed_is_there c es are handle.0 offset (λ entries adrift listed.
      mark_there (IsShared es key.0) (λ shared marks.
      none (Some (record { before = before; adrift = adrift; shared = shared }))
      (record { offset = offset; asks = is; handle = handle.0; uses = use_it; before = goes; adrift = (entries, listed); shared = marks }))))

  -- ---- the call

  -- there is what a call says of a tree request
  pub asked_there : (r : PlainRequest) → KeepsRules es r → IsTreeRequest r.body
      → ((call : PlainCall) → call.asked ≡ length es → operation_of r.body None ≡ Some call.operation → call.answer ≡ None → IsAskedCall es r call → ⊥) → ⊥
  asked_there r rules tree none =
      let node = known_name es r.node (all_there (IsKnown es) (nodes_named r) 0 r.node rules.known (names_first r.node r.body tree)) in
      let other = second_name es r rules.known (slice_get (nodes_named r) 1) refl in
      let asks = unanswered_there r.body tree in
      let handle = used_there r rules.uses (key_used es r) refl in
      mark_used (IsDirect es) (key_used es r) (λ direct directs.
      mark_there (Truncates es r.body) (λ truncates empties.
      listing_there r node.0 node.1 rules.uses (offset_asked r.body) refl (λ listing lists.
      none (record { asked = length es; operation = asks.0; node = node.0; other = other.0; handle = handle.0; direct = direct; truncates = truncates; listing = listing; answer = None })
      refl asks.1 refl (record { tree = tree; node = node.1; other = other.1; handle = handle.1; direct = directs; truncates = empties; listing = lists }))))
