-- What is alive behind events, and one event more.
use Rattle.std.proofs.Common.{◌≡◌, ℕ, true, false, cond, List, [], ◌∷◌, ◌++◌, length, Option, None, Some, refl, sym, subst, ◌∙◌}
use Rattle.std.specs.Prelude.{nat_eq, map, All, IsTrue}
use Rattle.std.specs.Map.{lookup}
use Rattle.fa_capture.specs.Message.{Message}
use Rattle.fa_bodies.specs.declared.handles.OpenOut.{OpenOut}
use Rattle.fa_bodies.specs.Requests.{PlainRequest}
use Rattle.fa_bodies.specs.Replies.{PlainReply}
use Rattle.fa_session.specs.Events.{PlainEvent}
use Rattle.fa_session.specs.Events.PlainEvent.{Asked, Answered, Notice}
use Rattle.fa_ledger.specs.declared.handles.Handles.{Handles}
use Rattle.fa_ledger.specs.declared.key.Key.{Key}
use Rattle.fa_ledger.specs.declared.live.Live.{Live}
use Rattle.fa_ledger.specs.declared.name.NodeName.{NodeName}
use Rattle.fa_ledger.specs.declared.nodes.Nodes.{Nodes}
use Rattle.fa_ledger.specs.declared.tables.Tables.{Tables}
use Rattle.fa_ledger.specs.declared.tables.Used.{Used}
use Rattle.fa_ledger.specs.Counts.{nodes_given, request_takes, total_taken}
use Rattle.fa_ledger.specs.Names.{name_at, nodes_named}
use Rattle.fa_ledger.specs.Keys.{key_eq}
use Rattle.fa_ledger.specs.Handles.{is_closing, opening}
use Rattle.fa_ledger.specs.Passing.{MayBeGiven}
use Rattle.fa_ledger.specs.Refusals.{GivesMore}
use Rattle.fa_ledger.specs.Standing.{OpensItsNode}
use Rattle.fa_ledger.specs.parts.LiveParts.{LiveShows, Stands, OpeningsShow, opened_under}
use Rattle.fa_ledger.specs.parts.TableParts.{NodesShow, KeysShow, IsUsed}
use Rattle.fa_ledger.specs.parts.Steps.{closed_once, but_root, given_to, given_again, times_named, opens_new, IsTakenFrom, IsOpenedBy}
use Rattle.fa_ledger.proofs.KeyLemmas.{key_unmoved}
use Rattle.fa_ledger.proofs.NodeLemmas.{node_kept}
use Rattle.fa_ledger.proofs.OpeningLemmas.{opens_tree, opens_not_closing, openings_kept, openings_asked, openings_answered, opening_under}
use Rattle.fa_ledger.proofs.ReplyLemmas.{nodes_answered, names_answered, keys_answered, opens_more}
use Rattle.fa_ledger.proofs.RequestLemmas.{names_none, nodes_kept, nodes_taken, keys_kept, keys_closed}

-- ---- requests

module _ (c : List Message) (m : Message) (es : List PlainEvent) (at : ℕ) (r : PlainRequest) (l : Live) where
  -- the openings that wait, where the request is none
  openings_left : (OpensItsNode r.body → ⊥) → Stands c m es (Asked at r) l → OpeningsShow (es ++ Asked at r ∷ []) l.opening.entries
  openings_left no_opening stands =
      openings_kept es (Asked at r) l.opening.entries (λ asked s opens is. let same : r ≡ s = cc in no_opening (subst (λ (q : PlainRequest). OpensItsNode q.body) (sym same) opens))
      (λ n asked s reply is. absurd cc) stands.shown.opening

  -- one that takes, closes and opens nothing leaves all as it is
  pub left_shows : request_takes r ≡ [] → is_closing r.body ≡ false → (OpensItsNode r.body → ⊥) → Stands c m es (Asked at r) l → LiveShows (es ++ Asked at r ∷ []) l
  left_shows none leaves no_opening stands = record {
    nodes = nodes_kept es at r l.tables.nodes.known.entries none stands.shown.nodes;
    keys = keys_kept es at r l.tables.handles.opened.entries leaves stands.shown.keys;
    opening = openings_left no_opening stands;
  }

  -- a closing closes its key once
  pub closed_shows : (handles : Handles) (used : Used) → request_takes r ≡ [] → is_closing r.body ≡ true → (OpensItsNode r.body → ⊥) → IsUsed es r l.tables.handles.opened.entries used
      → ((other : Key) → lookup (key_eq other) handles.opened.entries ≡ cond (key_eq used.key other) (closed_once (lookup (key_eq used.key) l.tables.handles.opened.entries)) (lookup (key_eq other) l.tables.handles.opened.entries))
      → Stands c m es (Asked at r) l → LiveShows (es ++ Asked at r ∷ []) (record l { tables = record l.tables { handles = handles } })
  closed_shows handles used none closes no_opening is wrote stands = record {
    nodes = nodes_kept es at r l.tables.nodes.known.entries none stands.shown.nodes;
    keys = keys_closed es at r l.tables.handles.opened.entries handles.opened.entries used closes is wrote stands.shown.keys;
    opening = openings_left no_opening stands;
  }

  -- an opening waits, with the name of its node
  pub asked_shows : (new : Live) (name : NodeName) → request_takes r ≡ [] → OpensItsNode r.body → name_at es r.node ≡ Some name → new.tables ≡ l.tables
      → ((other : ℕ) → lookup (nat_eq other) new.opening.entries ≡ cond (nat_eq at other) (Some name) (lookup (nat_eq other) l.opening.entries))
      → Stands c m es (Asked at r) l → LiveShows (es ++ Asked at r ∷ []) new
  asked_shows new name none opens named same wrote stands =
      let e : PlainEvent = Asked at r in record {
        nodes = subst (λ (t : Tables). NodesShow (es ++ e ∷ []) t.nodes.known.entries) (sym same) (nodes_kept es at r l.tables.nodes.known.entries none stands.shown.nodes);
        keys = subst (λ (t : Tables). KeysShow (es ++ e ∷ []) t.handles.opened.entries) (sym same) (keys_kept es at r l.tables.handles.opened.entries (opens_not_closing r.body opens) stands.shown.keys);
        opening = openings_asked c es stands.are at r name l.opening.entries new.opening.entries (stands.event.0 ∙ sym stands.are.counted) opens named wrote stands.shown.opening;
      }

  -- one that takes these items, and names no nodes
  pub taken_shows : (nodes : Nodes) (items : List (ℕ × ℕ)) → nodes_named r ≡ [] → request_takes r ≡ but_root items
      → ((node : ℕ) → IsTakenFrom (total_taken node (but_root items)) (lookup (nat_eq node) l.tables.nodes.known.entries) (lookup (nat_eq node) nodes.known.entries))
      → Stands c m es (Asked at r) l → LiveShows (es ++ Asked at r ∷ []) (record l { tables = record l.tables { nodes = nodes } })
  taken_shows nodes items none takes took stands =
      let is = names_none r.node r.body none in record {
        nodes = nodes_taken es at r l.tables.nodes.known.entries nodes.known.entries items takes took stands.shown.nodes;
        keys = keys_kept es at r l.tables.handles.opened.entries is.leaves stands.shown.keys;
        opening = openings_left (λ opens. is.no_tree (opens_tree r.body opens)) stands;
      }

  -- one that names no nodes and takes nothing
  pub none_shows : nodes_named r ≡ [] → request_takes r ≡ [] → Stands c m es (Asked at r) l → LiveShows (es ++ Asked at r ∷ []) l
  none_shows none takes stands =
      let is = names_none r.node r.body none in
      left_shows takes is.leaves (λ opens. is.no_tree (opens_tree r.body opens)) stands

-- ---- answers

module _ (c : List Message) (m : Message) (es : List PlainEvent) (at asked : ℕ) (r : PlainRequest) (reply : PlainReply) (old : Live) (names : List NodeName) (which : Option (Key × OpenOut))
    (stands : Stands c m es (Answered at asked r reply) old) (may : All MayBeGiven (nodes_given r.body reply))
    (named : names ≡ map (λ id. given_to id at (lookup (nat_eq id) old.tables.nodes.known.entries)) (nodes_given r.body reply))
    (opens : which ≡ opened_under (lookup (nat_eq asked) old.opening.entries) names r.body reply) where
  -- the event's place
  event_place : at ≡ length es
  event_place = stands.event.0 ∙ sym stands.are.counted

  -- what it opens
  opening_is : opening es (Answered at asked r reply) ≡ which
  opening_is =
      let given = names_answered es at asked r reply old.tables.nodes.known.entries names event_place stands.shown.nodes may named in
      opening_under c m es stands.are at asked r reply stands.event names given (lookup (nat_eq asked) old.opening.entries) (stands.shown.opening asked) ∙ sym opens

  -- it gives nodes, opens a key, if any, and its request waits no more
  pub answer_shows : (new : Live)
      → ((node : ℕ) → lookup (nat_eq node) new.tables.nodes.known.entries ≡ given_again at (times_named node names) (lookup (nat_eq node) old.tables.nodes.known.entries))
      → IsOpenedBy asked which old.tables.handles.opened.entries new.tables.handles.opened.entries
      → ((other : ℕ) → lookup (nat_eq other) new.opening.entries ≡ cond (nat_eq asked other) None (lookup (nat_eq other) old.opening.entries))
      → LiveShows (es ++ Answered at asked r reply ∷ []) new
  answer_shows new gave noted took = record {
    nodes = nodes_answered es at asked r reply old.tables.nodes.known.entries new.tables.nodes.known.entries names event_place stands.shown.nodes may named gave;
    keys = keys_answered es at asked r reply old.tables.handles.opened.entries new.tables.handles.opened.entries event_place stands.shown.keys which opening_is noted;
    opening = openings_answered es at asked r reply old.opening.entries new.opening.entries event_place took stands.shown.opening;
  }

  -- what opens a key anew gives more
  pub keys_more : IsTrue (opens_new old.tables.handles.opened.entries which) → GivesMore es at asked r reply
  keys_more new = opens_more es at asked r reply old.tables.handles.opened.entries which event_place stands.shown.keys opening_is new

-- ---- notifications

pub notice_shows : (c : List Message) (m : Message) (es : List PlainEvent) (at : ℕ) (l : Live) → Stands c m es (Notice at) l → LiveShows (es ++ Notice at ∷ []) l
notice_shows c m es at l stands = record {
  nodes = λ node. node_kept es (Notice at) node (lookup (nat_eq node) l.tables.nodes.known.entries) refl refl (stands.shown.nodes node);
  keys = λ key. key_unmoved es (Notice at) key (lookup (key_eq key) l.tables.handles.opened.entries) refl refl (stands.shown.keys key);
  opening = openings_kept es (Notice at) l.opening.entries (λ asked s opens is. absurd cc) (λ n asked s reply is. absurd cc) stands.shown.opening;
}
