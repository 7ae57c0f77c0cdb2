-- Where the nodes and the open directories that requests name come from: from answers before them, to tree requests.
use Rattle.std.proofs.Common.{◌≡◌, ◌≢◌, ◌⊎◌, ℕ, suc, ◌<◌, ◌≤◌, ◌==◌, Bool, true, false, List, [], ◌∷◌, ◌++◌, length, take, Option, None, Some, refl, sym, ap, subst, ◌∙◌, inl, inr, arith}
use Rattle.std.specs.Prelude.{slice_get, Contains, if◌then◌else◌, option_map, option_and_then}
use Rattle.std.proofs.lemmas.Bool.{cases_lt}
use Rattle.std.proofs.lemmas.Bool.Decides.{nat_tests}
use Rattle.std.proofs.lemmas.List.{length-take, take-take}
use Rattle.std.proofs.lemmas.Option.{slice_get_within, same_Some}
use Rattle.fa_capture.specs.Message.{Message}
use Rattle.fa_capture.proofs.CallerLemmas.{get_of_front, get_in_front, counted_there}
use Rattle.fa_bodies.specs.declared.handles.OpenIn.{OpenIn}
use Rattle.fa_bodies.specs.declared.handles.OpenOut.{OpenOut}
use Rattle.fa_bodies.specs.declared.requests.TheConstants.{ROOT_ID}
use Rattle.fa_bodies.specs.Requests.{PlainRequest, PlainBody}
use Rattle.fa_bodies.specs.Requests.PlainBody.{Forget, Open, Release, Flush, Init, Opendir, Readdir, Releasedir, Create, BatchForget, Readdirplus, Passed}
use Rattle.fa_bodies.specs.Replies.{PlainReply}
use Rattle.fa_bodies.specs.Replies.PlainReply.{Created, Opened}
use Rattle.fa_session.specs.Answers.{IsRequestAt, IsAnsweredBy}
use Rattle.fa_session.specs.Events.{PlainEvent}
use Rattle.fa_session.specs.Events.PlainEvent.{Asked, Answered, Notice}
use Rattle.fa_session.proofs.CallerLemmas.{answered_once, answered_asked}
use Rattle.fa_ledger.specs.declared.key.HandleKind.{HandleKind}
use Rattle.fa_ledger.specs.declared.key.HandleKind.TheVariants.{File, Directory}
use Rattle.fa_ledger.specs.declared.key.Key.{Key}
use Rattle.fa_ledger.specs.declared.name.NodeName.{NodeName}
use Rattle.fa_ledger.specs.declared.name.NodeName.TheVariants.{Root, Given}
use Rattle.fa_ledger.specs.Events.{AreEvents}
use Rattle.fa_ledger.specs.Kinds.{IsTreeRequest}
use Rattle.fa_ledger.specs.Counts.{nodes_given, times_given, IsCounted}
use Rattle.fa_ledger.specs.Names.{name_at, stays_from, IsCountedSince, IsNamedBy}
use Rattle.fa_ledger.specs.Sums.{least_below}
use Rattle.fa_ledger.specs.Keys.{handle_used, key_at, key_used}
use Rattle.fa_ledger.specs.Handles.{opened_by, opening, times_opened, times_closed, IsHandle}
use Rattle.fa_ledger.specs.Listings.{offset_asked}
use Rattle.fa_ledger.specs.Calls.{PlainAnswer, PlainCall, OpensAnew, IsAnswerOf, HasAnswer, IsCall}
use Rattle.fa_ledger.proofs.CallLemmas.{answers_at}
use Rattle.fa_ledger.proofs.CallStepLemmas.{answered_place, message_of, request_event, request_there}
use Rattle.fa_ledger.proofs.NameLemmas.{name_is_least}
use Rattle.fa_ledger.proofs.ReplyLemmas.{plain_gives_nothing}

-- ---- an answer before a message

-- Message q, which comes before message p, answers the tree request at `asked`, and says this.
pub record IsTreeAnswer (c : List Message) (es : List PlainEvent) (p q asked : ℕ) (request : PlainRequest) (reply : PlainReply) : Type 0 where
  pub there : slice_get es q ≡ Some (Answered q asked request reply)
  pub before : q < p
  pub tree : (r : PlainRequest) × IsRequestAt c asked r × IsTreeRequest r.body
  pub answered : IsAnsweredBy c asked q

-- a request is one of the tree, or none
tree_or_not : (b : PlainBody) → IsTreeRequest b ⊎ (IsTreeRequest b → ⊥)
tree_or_not (Forget nlookup) = inr (λ tree. absurd cc)
tree_or_not (Release r) = inr (λ tree. absurd cc)
tree_or_not (Flush f) = inr (λ tree. absurd cc)
tree_or_not (Init i) = inr (λ tree. absurd cc)
tree_or_not (Releasedir r) = inr (λ tree. absurd cc)
tree_or_not (BatchForget count items) = inr (λ tree. absurd cc)
tree_or_not Passed = inr (λ tree. absurd cc)
tree_or_not other = inl refl

-- an event of the first p that answers a tree request
tree_answer : (c : List Message) (es : List PlainEvent) → AreEvents c es → (p q at asked : ℕ) (request : PlainRequest) (reply : PlainReply)
    → slice_get (take p es) q ≡ Some (Answered at asked request reply) → IsTreeRequest request.body → IsTreeAnswer c es p q asked request reply
tree_answer c es are p q at asked request reply stands tree =
    let within = slice_get_within (take p es) q (Answered at asked request reply) stands in
    let whole : slice_get es q ≡ Some (Answered at asked request reply) = get_of_front es p q (Answered at asked request reply) stands in
    let place : at ≡ q = answered_place c es are q at asked request reply whole in
    let there : slice_get es q ≡ Some (Answered q asked request reply) = subst (λ n. slice_get es q ≡ Some (Answered n asked request reply)) place whole in
    let answers = answers_at c es are q q asked request reply there in
    record {
      there = there;
      before = omega (arith, within, length-take p es);
      tree = (request, answered_asked c q asked request answers, tree);
      answered = (request, answers);
    }

-- ---- nodes

-- a name that is not the root's has the id of its node
pub not_root_named : (es : List PlainEvent) (node id g : ℕ) → name_at es node ≡ Some (Given g id) → (node ≢ ROOT_ID) × (id ≡ node)
not_root_named es node id g is = by (node == ROOT_ID) refl is
  where
    same : (t : Option ℕ) → option_map (λ h. Given h node) t ≡ Some (Given g id) → id ≡ node
    same None named = absurd cc
    same (Some h) named = let whole : Given h node ≡ Given g id = cc in cc

    by : (b : Bool) → (node == ROOT_ID) ≡ b → (if b then Some Root else option_map (λ h. Given h node) (least_below (length es) (stays_from es node))) ≡ Some (Given g id)
        → (node ≢ ROOT_ID) × (id ≡ node)
    by true test named = absurd cc
    by false test named = ((λ root. grind (arith, nat_tests, test, root)), same (least_below (length es) (stays_from es node)) named)

module _ (es : List PlainEvent) (node g p : ℕ) (since : IsCountedSince (take p es) node g) where
  within : g < length (take p es)
  within = slice_get_within (take p es) g since.event since.there

  -- what is counted since an event is so behind this event
  counted_now : IsCountedSince (take (suc g) es) node g
  counted_now = record {
    event = since.event;
    there = get_in_front es (suc g) g since.event (omega arith) (get_of_front es p g since.event since.there);
    gives = since.gives;
    stays = λ r later inside.
        let below : r ≤ suc g = omega (arith, inside, length-take (suc g) es) in
        let far : r ≤ p = omega (arith, below, within, length-take p es) in
        subst (λ xs. IsCounted xs node) (take-take r p es far ∙ sym (take-take r (suc g) es below))
        (since.stays r later (omega (arith, below, within)));
  }

  -- and what was counted since an earlier event then was so at the end
  counted_still : (h : ℕ) → h < g → IsCountedSince (take (suc g) es) node h → IsCountedSince (take p es) node h
  counted_still h earlier other = record {
    event = other.event;
    there = get_in_front es p h other.event (omega (arith, earlier, within, length-take p es)) (get_of_front es (suc g) h other.event other.there);
    gives = other.gives;
    stays = λ r later inside.
        elim (cases_lt g r) [
          | inl behind ↦ since.stays r behind inside
          | inr front ↦
              let far : r ≤ p = omega (arith, front, within, length-take p es) in
              let below : r ≤ suc g = omega (arith, front) in
              subst (λ xs. IsCounted xs node) (take-take r (suc g) es below ∙ sym (take-take r p es far))
              (other.stays r later (omega (arith, front, within, length-take p es, length-take (suc g) es)))
        ];
  }

  -- so a node that is named by an event has this name since then
  named_since : ((h : ℕ) → IsCountedSince (take p es) node h → g ≤ h) → IsNamedBy (take (suc g) es) node g
  named_since least = record {
    since = counted_now;
    least = λ h other. elim (cases_lt h g) [
      | inl earlier ↦ least h (counted_still h earlier other)
      | inr late ↦ late
    ];
  }

-- The node has its name since message g, which gives it, before message p.
pub record IsNamedSince (c : List Message) (es : List PlainEvent) (p id g : ℕ) : Type 0 where
  pub asked : ℕ
  pub request : PlainRequest
  pub reply : PlainReply
  pub answer : IsTreeAnswer c es p g asked request reply
  pub gives : Contains (nodes_given request.body reply) id
  pub named : name_at (take (suc g) es) id ≡ Some (Given g id)

-- a name comes from the answer to a tree request
pub name_given : (c : List Message) (es : List PlainEvent) → AreEvents c es → (p node id g : ℕ) → name_at (take p es) node ≡ Some (Given g id) → IsNamedSince c es p id g
name_given c es are p node id g is =
    subst (λ n. IsNamedSince c es p n g) (sym same) (by since.event refl)
  where
    other : node ≢ ROOT_ID
    other = (not_root_named (take p es) node id g is).0

    same : id ≡ node
    same = (not_root_named (take p es) node id g is).1

    by_node : name_at (take p es) node ≡ Some (Given g node)
    by_node = subst (λ n. name_at (take p es) node ≡ Some (Given g n)) same is

    named : IsNamedBy (take p es) node g
    named = (name_is_least (take p es) node g other).0 by_node

    since : IsCountedSince (take p es) node g
    since = named.since

    now : name_at (take (suc g) es) node ≡ Some (Given g node)
    now = (name_is_least (take (suc g) es) node g other).1 (named_since es node g p since named.least)

    by : (e : PlainEvent) → since.event ≡ e → IsNamedSince c es p node g
    by (Asked at r) event = let none : 0 < 0 = subst (λ e. 0 < times_given node e) event since.gives in absurd (omega (arith, none))
    by (Notice at) event = let none : 0 < 0 = subst (λ e. 0 < times_given node e) event since.gives in absurd (omega (arith, none))
    by (Answered at asked r reply) event =
        let stands : slice_get (take p es) g ≡ Some (Answered at asked r reply) = since.there ∙ ap (λ e. Some e) event in
        let gives : 0 < times_given node (Answered at asked r reply) = subst (λ e. 0 < times_given node e) event since.gives in
        let has : Contains (nodes_given r.body reply) node = counted_there (nodes_given r.body reply) node gives in
        elim (tree_or_not r.body) [
          | inl tree ↦ record {
            asked = asked;
            request = r;
            reply = reply;
            answer = tree_answer c es are p g at asked r reply stands tree;
            gives = has;
            named = now;
          }
          | inr plain ↦
              let message = message_of c es are g (Answered at asked r reply) (get_of_front es p g (Answered at asked r reply) stands) in
              let nothing = plain_gives_nothing (take g c) message.0 at asked r reply message.2 plain in
              let none : Contains [] node = subst (λ nodes. Contains nodes node) nothing.0 has in
              absurd (omega (arith, none.1))
        ]

-- ---- open directories

-- the kind of a key
key_kind : (es : List PlainEvent) (node fh : ℕ) (kind : HandleKind) (key : Key) → key_at es node (fh, kind) ≡ Some key → key.kind ≡ kind
key_kind es node fh kind key is = by (name_at es node) is
  where
    by : (name : Option NodeName) → option_map (λ n. let k : Key = record { node = n; fh = fh; kind = kind } in k) name ≡ Some key → key.kind ≡ kind
    by None is = absurd cc
    by (Some name) is = sym (ap (λ (k : Key). k.kind) (same_Some (record { node = name; fh = fh; kind = kind }) key is))

-- a request that lists uses a directory
lists_kind : (es : List PlainEvent) (node : ℕ) (b : PlainBody) (offset : ℕ) (key : Key) → offset_asked b ≡ Some offset → option_and_then (key_at es node) (handle_used b) ≡ Some key → key.kind ≡ Directory
lists_kind es node (Readdir r) offset key asks uses = key_kind es node r.fh Directory key uses
lists_kind es node (Readdirplus r) offset key asks uses = key_kind es node r.fh Directory key uses
lists_kind es node other offset key asks uses = absurd cc

pub lists_directory : (es : List PlainEvent) (r : PlainRequest) (offset : ℕ) (key : Key) → offset_asked r.body ≡ Some offset → key_used es r ≡ Some key → key.kind ≡ Directory
lists_directory es r offset key asks uses = lists_kind es r.node r.body offset key asks uses

-- OPENDIR alone opens one
opening_kind : (es : List PlainEvent) (node fh : ℕ) (kind : HandleKind) (given : OpenOut) (key : Key) (out : OpenOut)
    → option_map {U = Key × OpenOut} (λ k. (k, given)) (key_at es node (fh, kind)) ≡ Some (key, out) → key.kind ≡ kind
opening_kind es node fh kind given key out is = by (key_at es node (fh, kind)) refl is
  where
    by : (found : Option Key) → key_at es node (fh, kind) ≡ found → option_map {U = Key × OpenOut} (λ k. (k, given)) found ≡ Some (key, out) → key.kind ≡ kind
    by None none opens = absurd cc
    by (Some k) some opens =
        let same : k ≡ key = ap (λ (x : Key × OpenOut). x.0) (same_Some (k, given) (key, out) opens) in
        key_kind es node fh kind key (some ∙ ap (λ x. Some x) same)

opens_directory : (before answered : List PlainEvent) (node : ℕ) (body : PlainBody) (reply : PlainReply) (key : Key) (out : OpenOut)
    → opened_by before answered node body reply ≡ Some (key, out) → key.kind ≡ Directory → ((o : OpenIn) × (body ≡ Opendir o)) × ((given : OpenOut) × (reply ≡ Opened given))
opens_directory before answered node (Opendir o) (Opened given) key out opens kind = ((o, refl), (given, refl))
opens_directory before answered node (Opendir o) reply key out opens kind = absurd cc
opens_directory before answered node (Open o) (Opened given) key out opens kind =
    let clash : File ≡ Directory = sym (opening_kind before node given.fh File given key out opens) ∙ kind in
    absurd cc
opens_directory before answered node (Open o) reply key out opens kind = absurd cc
opens_directory before answered node (Create flags mode umask name) (Created entry given) key out opens kind =
    let clash : File ≡ Directory = sym (opening_kind answered entry.nodeid given.fh File given key out opens) ∙ kind in
    absurd cc
opens_directory before answered node (Create flags mode umask name) reply key out opens kind = absurd cc
opens_directory before answered node other reply key out opens kind = absurd cc

-- The request at `handle` is an OPENDIR, and its answer, before message p, opened a handle anew.
pub record IsOpenedBefore (c : List Message) (es : List PlainEvent) (p handle : ℕ) : Type 0 where
  pub by : ℕ
  pub request : PlainRequest
  pub reply : PlainReply
  pub answer : IsTreeAnswer c es p by handle request reply
  pub asks : (o : OpenIn) × (request.body ≡ Opendir o)
  pub says : (out : OpenOut) × (reply ≡ Opened out)
  pub anew : OpensAnew es by

-- the handle of an open directory comes from the answer to an OPENDIR
pub handle_opened : (c : List Message) (es : List PlainEvent) → AreEvents c es → (p : ℕ) (key : Key) (handle : ℕ) → key.kind ≡ Directory → IsHandle (take p es) key handle → IsOpenedBefore c es p handle
handle_opened c es are p key handle kind h =
    let e : PlainEvent = Answered h.since handle h.request h.reply in
    let stands = h.stands in
    let same : stands.opened.0 ≡ e = same_Some stands.opened.0 e (sym stands.opened.1 ∙ h.answer) in
    let opens : opening (take h.since (take p es)) e ≡ Some (key, stands.out) = subst (λ x. opening (take h.since (take p es)) x ≡ Some (key, stands.out)) same stands.opened.2 in
    let front : List PlainEvent = take h.since (take p es) in
    let both = opens_directory (take handle front) (front ++ e ∷ []) h.request.node h.request.body h.reply key stands.out opens kind in
    let answer : IsTreeAnswer c es p h.since handle h.request h.reply =
    tree_answer c es are p h.since h.since handle h.request h.reply h.answer (subst IsTreeRequest (sym both.0.1) refl) in
    let kept : take h.since (take p es) ≡ take h.since es = take-take h.since p es (let before = answer.before in omega (arith, before)) in
    record {
      by = h.since;
      request = h.request;
      reply = h.reply;
      answer = answer;
      asks = both.0;
      says = both.1;
      anew = (
        key,
        stands.out,
        (e, answer.there, subst (λ xs. opening xs e ≡ Some (key, stands.out)) kept opens),
        subst (λ xs. times_opened xs key ≡ times_closed xs key) kept stands.anew,
      );
    }

-- ---- the answer of a call

-- The call is of this request, and its answer is message q and says this.
pub record HasReply (es : List PlainEvent) (call : PlainCall) (is : IsCall es call) (q : ℕ) (request : PlainRequest) (reply : PlainReply) : Type 0 where
  pub same : is.request ≡ request
  pub answer : PlainAnswer
  pub has : call.answer ≡ Some answer
  pub of_call : IsAnswerOf es is.request call answer
  pub place : answer.at ≡ q
  pub says : of_call.reply ≡ reply

-- what answers a call is its answer
pub call_replied : (c : List Message) (es : List PlainEvent) → AreEvents c es → (call : PlainCall) (is : IsCall es call) (p q : ℕ) (request : PlainRequest) (reply : PlainReply)
    → IsTreeAnswer c es p q call.asked request reply → HasReply es call is q request reply
call_replied c es are call is p q request reply answer = by call.answer refl is.answered
  where
    asked : slice_get es call.asked ≡ Some (Asked call.asked request)
    asked = request_event c es are call.asked request (answered_asked c q call.asked request (answers_at c es are q q call.asked request reply answer.there))

    same : is.request ≡ request
    same = request_there es call.asked call request is refl asked

    there : slice_get es q ≡ Some (Answered q call.asked is.request reply)
    there = subst (λ r. slice_get es q ≡ Some (Answered q call.asked r reply)) (sym same) answer.there

    by : (found : Option PlainAnswer) → call.answer ≡ found → HasAnswer es is.request call found → HasReply es call is q request reply
    by None none has = absurd (has.none q reply there)
    by (Some a) some has =
        let first = answers_at c es are a.at a.at call.asked is.request has.reply has.there in
        let second = answers_at c es are q q call.asked is.request reply there in
        let place : a.at ≡ q = answered_once c a.at q call.asked is.request is.request first second in
        let here : slice_get es q ≡ Some (Answered a.at call.asked is.request has.reply) = subst (λ n. slice_get es n ≡ Some (Answered a.at call.asked is.request has.reply)) place has.there in
        let events : Some (Answered a.at call.asked is.request has.reply) ≡ Some (Answered q call.asked is.request reply) = sym here ∙ there in
        let says : has.reply ≡ reply = cc in
        record { same = same; answer = a; has = some; of_call = has; place = place; says = says }
