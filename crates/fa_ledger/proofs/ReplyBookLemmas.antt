-- The books, and the answer to a request.
use Rattle.std.proofs.Common.{◌≡◌, ◌≢◌, ℕ, ◌<◌, ◌≤◌, Bool, cond, List, [], ◌∷◌, ◌++◌, length, take, Option, None, Some, refl, sym, ap, subst, ◌∙◌, inr, arith}
use Rattle.std.specs.Prelude.{◌↔◌, ◌||◌, ◌==◌, nat_eq, map, count_by, All, IsTrue, IfSome}
use Rattle.std.specs.Map.{lookup}
use Rattle.fa_capture.specs.declared.limits.TheConstants.{MAX_MESSAGES}
use Rattle.fa_capture.specs.Message.{Message}
use Rattle.fa_bodies.specs.declared.handles.OpenOut.{OpenOut}
use Rattle.fa_bodies.specs.FlagBits.{atomic_o_trunc}
use Rattle.fa_bodies.specs.Listing.{entries_left}
use Rattle.std.proofs.lemmas.Option.{same_Some}
use Rattle.fa_bodies.specs.Requests.{PlainRequest, IsRequest}
use Rattle.fa_bodies.specs.Replies.{PlainReply}
use Rattle.fa_session.specs.Events.{PlainEvent, IsEvent}
use Rattle.fa_session.specs.Events.PlainEvent.{Answered}
use Rattle.fa_ledger.specs.declared.books.Books.{Books}
use Rattle.fa_ledger.specs.declared.error.LedgerError.{LedgerError}
use Rattle.fa_ledger.specs.declared.error.LedgerError.TheVariants.{Memory}
use Rattle.fa_ledger.specs.declared.handles.Handle.{Handle}
use Rattle.fa_ledger.specs.declared.row.WaitingCall.{WaitingCall}
use Rattle.fa_ledger.specs.declared.key.Key.{Key}
use Rattle.fa_ledger.specs.declared.listings.ListedOn.{ListedOn}
use Rattle.fa_ledger.specs.declared.listings.Listings.{Listings}
use Rattle.fa_ledger.specs.declared.listings.Offsets.{Offsets}
use Rattle.fa_ledger.specs.declared.listings.Place.{Place}
use Rattle.fa_ledger.specs.declared.name.NodeName.{NodeName}
use Rattle.fa_ledger.specs.declared.nodes.Lookups.{Lookups}
use Rattle.fa_ledger.specs.declared.tables.Tables.{Tables}
use Rattle.fa_ledger.specs.Counts.{nodes_given}
use Rattle.fa_ledger.specs.Names.{name_at}
use Rattle.fa_ledger.specs.Keys.{key_eq}
use Rattle.fa_ledger.specs.Kinds.{IsTreeRequest}
use Rattle.fa_ledger.specs.Handles.{opening}
use Rattle.fa_ledger.specs.Passing.{MayBeGiven}
use Rattle.fa_ledger.specs.Calls.{PlainCall, PlainAnswer, IsNegotiatedFlag, OpensAnew, AreCallsOf}
use Rattle.fa_ledger.specs.Shows.{IsNodeOf, IsKeyOf, ArePlaces}
use Rattle.fa_ledger.specs.Refusals.{GivesMore, IsMoreKept}
use Rattle.fa_ledger.specs.parts.Steps.{given_to, given_again, times_named, opened_with, opens_new, with_answer, IsOpenedBy, SettlesTruncation}
use Rattle.fa_ledger.specs.parts.CallParts.{WaitsAt, waiting_of}
use Rattle.fa_ledger.specs.parts.Ids.{IsIdIn}
use Rattle.fa_ledger.specs.parts.ListingParts.{place_of, noted, ListsNew, ListsStillIfAny, IsNotedBy}
use Rattle.fa_ledger.specs.Listings.{count_to}
use Rattle.fa_ledger.specs.parts.TableParts.{IsAnsweredRefusal}
use Rattle.fa_ledger.specs.parts.BookParts.{BooksShow, Stands}
use Rattle.fa_ledger.specs.Operations.{PlainOperation, operation_of}
use Rattle.fa_ledger.proofs.IdLemmas.{name_there}
use Rattle.fa_ledger.proofs.OperationLemmas.{reply_done}
use Rattle.fa_ledger.proofs.CallStepLemmas.{calls_kept, calls_answered, call_waits, waiting_call}
use Rattle.fa_ledger.proofs.KeyLemmas.{openings_few, key_unmoved, none_unopened}
use Rattle.fa_ledger.proofs.NodeLemmas.{node_kept}
use Rattle.fa_ledger.proofs.ListingLemmas.{answered_anew}
use Rattle.fa_ledger.proofs.PlaceBookLemmas.{places_answered, places_replied, lists_on, count_fits}
use Rattle.fa_ledger.proofs.ReplyLemmas.{nodes_answered, names_answered, opening_answered, keys_answered, opens_answered, opens_more, flag_kept, flag_settled, plain_gives_nothing}

-- an open key can be opened once more
pub open_fits : (c : List Message) (m : Message) (es : List PlainEvent) (e : PlainEvent) (old : Books) → Stands c m es e old → (key : Key) (h : Handle) → lookup (key_eq key) old.tables.handles.opened.entries ≡ Some h → h.openings < MAX_MESSAGES
open_fits c m es e old stands key h there =
    openings_few es key (lookup (key_eq key) old.tables.handles.opened.entries) h (stands.shown.keys key) there (omega (arith, stands.few, stands.are.counted))

-- no tree request is INIT
tree_not_init : (es : List PlainEvent) (at asked : ℕ) (r : PlainRequest) (reply : PlainReply) → IsTreeRequest r.body
    → IsNegotiatedFlag (es ++ Answered at asked r reply ∷ []) atomic_o_trunc ↔ IsNegotiatedFlag es atomic_o_trunc
tree_not_init es at asked r reply tree =
    flag_kept es (Answered at asked r reply) atomic_o_trunc (λ n p s said i answer is init.
    let same : r ≡ s = cc in
    let clash = subst IsTreeRequest (ap (λ (x : PlainRequest). x.body) same ∙ init) tree in
    absurd cc)

-- what is known of an answer to a tree request: the call that waits, the names, what it opens and what it lists
pub record IsPrepared (c : List Message) (m : Message) (es : List PlainEvent) (at asked : ℕ) (r : PlainRequest) (reply : PlainReply) (old : Books) (names : List NodeName) (which : Option (Key × OpenOut)) : Type 0 where
  pub stands : Stands c m es (Answered at asked r reply) old
  pub may : All MayBeGiven (nodes_given r.body reply)
  pub waiting : WaitingCall
  pub place : ℕ
  pub call : PlainCall
  pub waits : WaitsAt old.calls.calls asked place call
  pub own : waiting ≡ waiting_of call
  pub named : names ≡ map (λ id. given_to id at (lookup (nat_eq id) old.tables.nodes.known.entries)) (nodes_given r.body reply)
  pub opens : which ≡ opened_with waiting.node names r.body reply

-- a table of nodes in which these are given
abbrev pub IsGiven : ℕ → List NodeName → List (ℕ × Lookups) → List (ℕ × Lookups) → Type 0
IsGiven at names old new = (node : ℕ) → lookup (nat_eq node) new ≡ given_again at (times_named node names) (lookup (nat_eq node) old)

-- ---- what it lists

-- how many entries it has
pub listed_counted : (c : List Message) (m : Message) (at asked : ℕ) (r : PlainRequest) (reply : PlainReply) → IsEvent c m (Answered at asked r reply) → (opened : List (Key × Handle)) (waiting : WaitingCall) (call : PlainCall) → waiting ≡ waiting_of call
    → (listed : Option ListedOn) → ListsStillIfAny opened waiting r.body reply listed → IfSome listed (λ l. l.count ≡ length (entries_left l.entries)) × IfSome listed (λ l. l.count ≤ 4294967295)
listed_counted c m at asked r reply event opened waiting call own None lists = (tt, tt)
listed_counted c m at asked r reply event opened waiting call own (Some l) lists =
    (lists.2, count_fits c m at asked r reply event opened call l (subst (λ x. ListsStillIfAny opened x r.body reply (Some l)) own lists))

-- what is noted in a table with the same places is noted in this one
pub noted_also : (asked : ℕ) (listed : Option ListedOn) (old kept new : List (Key × Offsets)) → ((key : Key) (offset : ℕ) → place_of kept key offset ≡ place_of old key offset) → IsNotedBy asked listed kept new
    → IsNotedBy asked listed old new
noted_also asked None old kept new same noted_so = λ other offset. noted_so other offset ∙ same other offset
noted_also asked (Some l) old kept new same noted_so = λ other offset.
    noted_so other offset ∙ ap (λ place. cond (key_eq l.key other) (noted asked l.adrift (count_to offset (entries_left l.entries)) place) place) (same other offset)

-- ---- the answer to a tree request

module _ (c : List Message) (m : Message) (es : List PlainEvent) (at asked : ℕ) (r : PlainRequest) (reply : PlainReply) (old : Books) where
  -- an answer to a call makes its operation
  pub operation_there : Stands c m es (Answered at asked r reply) old → (place : ℕ) (call : PlainCall) → WaitsAt old.calls.calls asked place call → (o : PlainOperation) × (operation_of r.body (Some reply) ≡ Some o)
  operation_there stands place call waits =
      let w = call_waits c m es stands.are at asked r reply stands.event old.calls.calls stands.shown.calls place call waits.there waits.numbered in
      let done = reply_done r m.bytes reply stands.event.2 w.1.tree in
      (done.0, done.1)

  -- the request has the id of the name that the call's node has
  pub asked_there : Stands c m es (Answered at asked r reply) old → (place : ℕ) (call : PlainCall) → WaitsAt old.calls.calls asked place call
      → (bytes : List ℕ) → ∥ IsRequest bytes r ∥₁ → (n : ℕ) (other : PlainCall) → WaitsAt old.calls.calls n place other → IsIdIn bytes other.node
  asked_there stands place call waits bytes is n other there =
      let w = call_waits c m es stands.are at asked r reply stands.event old.calls.calls stands.shown.calls place call waits.there waits.numbered in
      let same : call ≡ other = same_Some call other (sym waits.there ∙ there.there) in
      subst (λ (x : PlainCall). IsIdIn bytes x.node) same (name_there bytes r (take asked es) call.node is w.1.node)

  -- the event's place
  event_place : Stands c m es (Answered at asked r reply) old → at ≡ length es
  event_place stands = stands.event.0 ∙ sym stands.are.counted

  -- what the node's name was when the request came
  asked_name : (names : List NodeName) (which : Option (Key × OpenOut))
      → (p : IsPrepared c m es at asked r reply old names which) → name_at (take asked es) r.node ≡ Some p.waiting.node
  asked_name names which p =
      let w = call_waits c m es p.stands.are at asked r reply p.stands.event old.calls.calls p.stands.shown.calls p.place p.call p.waits.there p.waits.numbered in
      w.1.node ∙ ap (λ n. Some n) (ap (λ x. x.node) (sym p.own))

  tree_asked : (names : List NodeName) (which : Option (Key × OpenOut))
      → IsPrepared c m es at asked r reply old names which → IsTreeRequest r.body
  tree_asked names which p =
      (call_waits c m es p.stands.are at asked r reply p.stands.event old.calls.calls p.stands.shown.calls p.place p.call p.waits.there p.waits.numbered).1.tree

  -- the books show the answer
  pub answer_shows : (new : Books) (names : List NodeName) (which : Option (Key × OpenOut)) (opens : Bool) (o : PlainOperation)
      → (p : IsPrepared c m es at asked r reply old names which) → operation_of r.body (Some reply) ≡ Some o → opens ≡ opens_new old.tables.handles.opened.entries which → new.truncating ≡ old.truncating
      → IsGiven at names old.tables.nodes.known.entries new.tables.nodes.known.entries → IsOpenedBy asked which old.tables.handles.opened.entries new.tables.handles.opened.entries
      → (listed : Option ListedOn) → ListsStillIfAny old.tables.handles.opened.entries p.waiting r.body reply listed → IsNotedBy asked listed old.listings.by_key.entries new.listings.by_key.entries
      → new.calls.calls ≡ with_answer old.calls.calls asked o (record { at = at; given = names; opens = opens }) → BooksShow (es ++ Answered at asked r reply ∷ []) new
  answer_shows new names which opens o p does opens_is settled gave noted listed lists listed_so answered =
      let place = event_place p.stands in
      let shown = p.stands.shown in
      let named = names_answered es at asked r reply old.tables.nodes.known.entries names place shown.nodes p.may p.named in
      let opening_is : opening es (Answered at asked r reply) ≡ which =
      opening_answered es at asked r reply p.waiting.node names (asked_name names which p) named ∙ sym p.opens in
      let flag = tree_not_init es at asked r reply (tree_asked names which p) in
      let answer : PlainAnswer = record { at = at; given = names; opens = opens } in
      let here : ℕ → List PlainEvent = λ n. es ++ Answered n asked r reply ∷ [] in
      let anew : IsTrue opens ↔ OpensAnew (here at) (length es) = opens_answered es at asked r reply old.tables.handles.opened.entries place shown.keys which opening_is opens opens_is in
      let calls : AreCallsOf (here (length es)) (with_answer old.calls.calls asked o answer) =
      calls_answered c m es p.stands.are asked r reply (subst (λ n. IsEvent c m (Answered n asked r reply)) place p.stands.event) old.calls.calls o answer shown.calls place does
      (subst (λ n. map (λ node. name_at (here n) node) (nodes_given r.body reply) ≡ map (λ name. Some name) names) place named)
      (subst (λ n. IsTrue opens ↔ OpensAnew (here n) (length es)) place anew) in
      record {
        truncating = (
          (λ yes. flag.1 (shown.truncating.0 (subst IsTrue settled yes))),
          (λ has. subst IsTrue (sym settled) (shown.truncating.1 (flag.0 has))),
        );
        nodes = nodes_answered es at asked r reply old.tables.nodes.known.entries new.tables.nodes.known.entries names place shown.nodes p.may p.named gave;
        keys = keys_answered es at asked r reply old.tables.handles.opened.entries new.tables.handles.opened.entries place shown.keys which opening_is noted;
        places = places_answered c m es at asked r reply p.stands.are p.stands.event old.calls.calls shown.calls p.place p.call p.waits old.tables.handles.opened.entries shown.keys listed
            (subst (λ x. ListsStillIfAny old.tables.handles.opened.entries x r.body reply listed) p.own lists) old.listings.by_key.entries new.listings.by_key.entries listed_so shown.places;
        calls = subst (AreCallsOf (here at)) (sym answered) (subst (λ n. AreCallsOf (here n) (with_answer old.calls.calls asked o answer)) (sym place) calls);
      }

  -- what opens a key anew gives more
  pub keys_more : (names : List NodeName) (which : Option (Key × OpenOut))
      → IsPrepared c m es at asked r reply old names which → IsTrue (opens_new old.tables.handles.opened.entries which) → GivesMore es at asked r reply
  keys_more names which p new =
      let place = event_place p.stands in
      let shown = p.stands.shown in
      let named = names_answered es at asked r reply old.tables.nodes.known.entries names place shown.nodes p.may p.named in
      let opening_is : opening es (Answered at asked r reply) ≡ which =
      opening_answered es at asked r reply p.waiting.node names (asked_name names which p) named ∙ sym p.opens in
      opens_more es at asked r reply old.tables.handles.opened.entries which place shown.keys opening_is new

  -- and where a listing has its offsets more is kept
  pub listed_more : (place : ℕ) (call : PlainCall) (waiting : WaitingCall) (listed : Option ListedOn)
      → Stands c m es (Answered at asked r reply) old → WaitsAt old.calls.calls asked place call → waiting ≡ waiting_of call → ListsStillIfAny old.tables.handles.opened.entries waiting r.body reply listed → ListsNew old.listings.by_key.entries listed
      → IsMoreKept es (Answered at asked r reply)
  listed_more place call waiting None stands waits own lists new = absurd new
  listed_more place call waiting (Some l) stands waits own lists new =
      inr (lists_on c m es at asked r reply stands.are stands.event old.calls.calls stands.shown.calls place call waits old.tables.handles.opened.entries stands.shown.keys l
      (subst (λ x. ListsStillIfAny old.tables.handles.opened.entries x r.body reply (Some l)) own lists) old.listings.by_key.entries stands.shown.places new)

  -- no place that the books have is of this request
  pub listed_anew : Stands c m es (Answered at asked r reply) old
      → (table : List (Key × Offsets)) → ((key : Key) (offset : ℕ) → place_of table key offset ≡ place_of old.listings.by_key.entries key offset)
      → (key : Key) (offset : ℕ) (place : Place) → place_of table key offset ≡ Some place → place.asked ≢ asked
  listed_anew stands table same key offset place there =
      answered_anew c m es at asked r reply stands.are stands.event old.tables.handles.opened.entries stands.shown.keys (place_of old.listings.by_key.entries) stands.shown.places key offset place (sym (same key offset) ∙ there)

  -- ---- the answer to any other request

  -- a request under whose number no call waits acts on no tree
  pub no_call_waits : Stands c m es (Answered at asked r reply) old
      → ((place : ℕ) (call : PlainCall) → WaitsAt old.calls.calls asked place call → ⊥) → IsTreeRequest r.body → ⊥
  no_call_waits stands none tree =
      let found = waiting_call c m es stands.are at asked r reply stands.event old.calls.calls stands.shown.calls tree in
      let w = call_waits c m es stands.are at asked r reply stands.event old.calls.calls stands.shown.calls found.0 found.1 found.2 found.3 in
      none found.0 found.1 (record { there = found.2; numbered = found.3; unanswered = w.0 })

  pub plain_shows : (new : Books) (settles : Bool)
      → Stands c m es (Answered at asked r reply) old → (IsTreeRequest r.body → ⊥) → IsTrue settles ↔ SettlesTruncation r.body reply → new.truncating ≡ (old.truncating || settles)
      → new.tables ≡ old.tables → new.listings ≡ old.listings → new.calls.calls ≡ old.calls.calls → BooksShow (es ++ Answered at asked r reply ∷ []) new
  plain_shows new settles stands no_tree settled truncates tables listings calls =
      let e : PlainEvent = Answered at asked r reply in
      let nothing = plain_gives_nothing c m at asked r reply stands.event no_tree in
      let flag = flag_settled es at asked r reply (event_place stands) old.truncating settles stands.shown.truncating settled in
      record {
        truncating = ((λ yes. flag.0 (subst IsTrue truncates yes)), (λ has. subst IsTrue (sym truncates) (flag.1 has)));
        nodes = λ node. subst (λ (t : Tables). IsNodeOf (es ++ e ∷ []) node (lookup (nat_eq node) t.nodes.known.entries)) (sym tables)
            (node_kept es e node (lookup (nat_eq node) old.tables.nodes.known.entries) (ap (count_by (λ given. given == node)) nothing.0) refl (stands.shown.nodes node));
        keys = λ key. subst (λ (t : Tables). IsKeyOf (es ++ e ∷ []) key (lookup (key_eq key) t.handles.opened.entries)) (sym tables)
            (key_unmoved es e key (lookup (key_eq key) old.tables.handles.opened.entries) (none_unopened es e key (nothing.1 es)) refl (stands.shown.keys key));
        places = subst (λ (l : Listings). ArePlaces (es ++ e ∷ []) (place_of l.by_key.entries)) (sym listings)
            (places_replied c m es at asked r reply stands.are stands.event no_tree (place_of old.listings.by_key.entries) stands.shown.places);
        calls = subst (AreCallsOf (es ++ e ∷ [])) (sym calls) (calls_kept es e old.calls.calls stands.shown.calls (λ p s is tree. absurd cc)
            (λ n p s said is tree. let same : r ≡ s = cc in no_tree (subst (λ (x : PlainRequest). IsTreeRequest x.body) (sym same) tree)));
      }

  -- ---- refusals

  -- want of memory for an answer that may be noted
  pub answer_refused : (error : LedgerError) → Stands c m es (Answered at asked r reply) old
      → All MayBeGiven (nodes_given r.body reply)
      → (error ≡ Memory) × ((b : List Message) (n : Message) (fs : List PlainEvent) → Stands b n fs (Answered at asked r reply) old → IsMoreKept fs (Answered at asked r reply)) → IsAnsweredRefusal r reply (IsMoreKept es (Answered at asked r reply)) error
  answer_refused error stands may why =
      subst (IsAnsweredRefusal r reply (IsMoreKept es (Answered at asked r reply))) (sym why.0) (may, why.1 c m es stands)
