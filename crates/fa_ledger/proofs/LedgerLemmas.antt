-- The ledger: what its fields show, and the next message.
use Rattle.std.proofs.Common.{◌≡◌, ℕ, ◌+◌, Bool, true, false, T, cond, List, [], ◌∷◌, ◌++◌, length, take, Some, refl, sym, ap, subst, ◌∙◌, inl, inr, arith}
use Rattle.std.specs.Prelude.{nat_eq, All}
use Rattle.std.specs.Cmp.{nat_cmp_total, unsigned_tied}
use Rattle.std.specs.FinMap.{find, entries, from_entries, get-entries, get-from_entries, same_map, nat_cmp-IsAntisymmetric, entries_sorted, is_sorted}
use Rattle.std.specs.Map.{lookup}
use Rattle.std.specs.Ordering.{nat_cmp}
use Rattle.std.proofs.Math.Logic.{∥∥₁_map}
use Rattle.std.proofs.lemmas.List.{length-append}
use Rattle.fa_capture.specs.declared.packet.Direction.{Direction}
use Rattle.fa_capture.specs.Checks.{AllHold, FirstFailure}
use Rattle.fa_capture.specs.Message.{Message}
use Rattle.fa_capture.proofs.CallerLemmas.{fails_behind, hold_both, lifted_failure, lifted_hold, get_cases, get_back, take_before, take_all_before}
use Rattle.fa_bodies.specs.FlagBits.{atomic_o_trunc}
use Rattle.fa_bodies.specs.Requests.{PlainRequest}
use Rattle.fa_bodies.specs.Replies.{PlainReply, IsReply}
use Rattle.fa_bodies.proofs.CallerLemmas.{request_is_one, reply_is_one}
use Rattle.fa_session.specs.Allowed.{session_checks, IsAllowed}
use Rattle.fa_session.specs.Answers.{IsRequestMessage}
use Rattle.fa_session.specs.Events.{PlainEvent, IsEvent}
use Rattle.fa_session.specs.Events.PlainEvent.{Asked, Answered, Notice}
use Rattle.fa_session.proofs.CallerLemmas.{answers_one}
use Rattle.fa_ledger.specs.declared.books.Books.{Books}
use Rattle.fa_ledger.specs.declared.error.LedgerError.{LedgerError}
use Rattle.fa_ledger.specs.declared.error.LedgerError.TheVariants.{Refused, Memory}
use Rattle.fa_ledger.specs.declared.handles.Handle.{Handle}
use Rattle.fa_ledger.specs.declared.key.Key.{Key}
use Rattle.fa_ledger.specs.declared.ledger.Ledger.TheInside.{Inside}
use Rattle.fa_ledger.specs.declared.nodes.Lookups.{Lookups}
use Rattle.fa_ledger.specs.Events.{AreEvents}
use Rattle.fa_ledger.specs.Counts.{nodes_given}
use Rattle.fa_ledger.specs.Passing.{ForAsked, asked_rules, ledger_checks, ledger_checks_by, Passes, AreGood, MayBeGiven}
use Rattle.fa_ledger.specs.Keys.{key_eq}
use Rattle.fa_ledger.specs.Calls.{PlainCall, AreCalls}
use Rattle.fa_ledger.specs.Plain.{PlainLedger}
use Rattle.fa_ledger.specs.Shows.{ShowsEvents, Shows, IsNodeOf, place_in}
use Rattle.fa_ledger.specs.declared.listings.Place.{Place}
use Rattle.fa_ledger.specs.parts.ListingParts.{place_of, listed_shown}
use Rattle.fa_ledger.specs.Refusals.{IsNext, IsRefusal, IsMoreKept, IsRefusedWith}
use Rattle.fa_ledger.specs.parts.TableParts.{asked_checks, IsAskedRefusal, IsAnsweredRefusal, IsLedgerRefusal}
use Rattle.fa_ledger.specs.parts.BookParts.{BooksShow, Stands, AreSame}
use Rattle.fa_ledger.specs.parts.View.{by_id, ledger_shown}
use Rattle.fa_ledger.proofs.EventLemmas.{events_are_one, notice_no_reply}
use Rattle.fa_ledger.proofs.CallStepLemmas.{events_more, calls_kept}
use Rattle.fa_ledger.proofs.KeyLemmas.{key_unmoved}
use Rattle.fa_ledger.proofs.NodeLemmas.{node_kept}
use Rattle.fa_ledger.proofs.HandleLemmas.{opened_more, closed_more}
use Rattle.fa_ledger.proofs.ListingLemmas.{unlisted_places}
use Rattle.fa_ledger.proofs.PlaceBookLemmas.{places_alike, place_shown}
use Rattle.fa_ledger.proofs.ReplyLemmas.{flag_kept}

-- ---- the table of nodes, by rising ids

find_entry : (node : ℕ) (es : List (ℕ × Lookups)) → find nat_cmp node es ≡ lookup (nat_eq node) es
find_entry node [] = refl
find_entry node (e ∷ es) =
    ap (λ (b : Bool). cond b (Some e.1) (find nat_cmp node es)) (unsigned_tied node e.0) ∙ ap (cond (nat_eq node e.0) (Some e.1)) (find_entry node es)

-- a look-up by rising ids is one among the entries
pub find_by_id : (node : ℕ) (known : List (ℕ × Lookups)) → find nat_cmp node (by_id known) ≡ lookup (nat_eq node) known
find_by_id node known =
    sym (get-entries (from_entries {R = nat_cmp} known) node) ∙ get-from_entries nat_cmp_total known node ∙ find_entry node known

-- a test that holds is true
holds_true : (b : Bool) → T b → b ≡ true
holds_true true holds = refl
holds_true false holds = absurd holds

-- the ids rise
pub by_id_rises : (known : List (ℕ × Lookups)) → is_sorted nat_cmp (by_id known) ≡ true
by_id_rises known = holds_true (is_sorted nat_cmp (by_id known)) (entries_sorted (from_entries {R = nat_cmp} known))

-- tables that have the same at each id show the same
pub same_by_id : (old new : List (ℕ × Lookups)) → ((node : ℕ) → lookup (nat_eq node) new ≡ lookup (nat_eq node) old) → by_id new ≡ by_id old
same_by_id old new same =
    ap entries (same_map nat_cmp_total nat_cmp-IsAntisymmetric (from_entries {R = nat_cmp} new) (from_entries {R = nat_cmp} old)
    (λ node. get-entries (from_entries {R = nat_cmp} new) node ∙ find_by_id node new ∙ same node ∙ sym (find_by_id node old) ∙ sym (get-entries (from_entries {R = nat_cmp} old) node)))

-- ---- what the fields show

shown_parts : (s : Inside) (es : List PlainEvent) → BooksShow es s.books → s.messages ≡ length es → ShowsEvents es (ledger_shown s)
shown_parts s es books counted = record {
  counted = counted;
  truncating = books.truncating;
  nodes = λ node. subst (IsNodeOf es node) (sym (find_by_id node s.books.tables.nodes.known.entries)) (books.nodes node);
  rising = by_id_rises s.books.tables.nodes.known.entries;
  handles = books.keys;
  listed = places_alike es (place_of s.books.listings.by_key.entries) (place_in (listed_shown s.books.listings.by_key.entries)) (place_shown s.books.listings.by_key.entries) books.places;
  calls = books.calls;
}

books_show : (s : Inside) (es : List PlainEvent) → ShowsEvents es (ledger_shown s) → BooksShow es s.books
books_show s es shown = record {
  truncating = shown.truncating;
  nodes = λ node. subst (IsNodeOf es node) (find_by_id node s.books.tables.nodes.known.entries) (shown.nodes node);
  keys = shown.handles;
  places = places_alike es (place_in (listed_shown s.books.listings.by_key.entries)) (place_of s.books.listings.by_key.entries) (λ key offset. sym (place_shown s.books.listings.by_key.entries key offset)) shown.listed;
  calls = shown.calls;
}

-- ---- the checks of the next message

-- a rule of requests holds for the events and the request of the message exactly where it holds for each
rule_lifted : (c : List Message) (m : Message) (es : List PlainEvent) (r : PlainRequest) → AreEvents c es → IsRequestMessage m r
    → (Such : List PlainEvent → PlainRequest → Type 0) → (Such es r → ForAsked c m Such) × (ForAsked c m Such → Such es r)
rule_lifted c m es r are is Such = (
  (λ holds others s too asked.
      let events : es ≡ others = events_are_one c es others are too in
      let requests : r ≡ s = request_is_one m.bytes r s is.1 asked.1 in
      subst (λ x. Such x s) events (subst (Such es) requests holds)),
  (λ each. each es r are is),
)

pub asked_hold : (c : List Message) (m : Message) (es : List PlainEvent) (at : ℕ) (r : PlainRequest) → AreEvents c es → IsEvent c m (Asked at r) → AllHold (asked_checks es r) → AllHold (ledger_checks c m)
asked_hold c m es at r are is hold =
    subst (λ (d : Direction). AllHold (ledger_checks_by d c m)) (sym is.1.0)
    (lifted_hold (λ Such. Such es r) (λ Such. ForAsked c m Such) (rule_lifted c m es r are is.1) asked_rules hold)

pub asked_fail : (c : List Message) (m : Message) (es : List PlainEvent) (at : ℕ) (r : PlainRequest) (code : ℕ) → AreEvents c es → IsEvent c m (Asked at r) → FirstFailure (asked_checks es r) code
    → FirstFailure (ledger_checks c m) code
asked_fail c m es at r code are is fails =
    subst (λ (d : Direction). FirstFailure (ledger_checks_by d c m) code) (sym is.1.0)
    (lifted_failure (λ Such. Such es r) (λ Such. ForAsked c m Such) (rule_lifted c m es r are is.1) asked_rules code fails)

pub answered_hold : (c : List Message) (m : Message) (at asked : ℕ) (r : PlainRequest) (reply : PlainReply) → IsEvent c m (Answered at asked r reply) → All MayBeGiven (nodes_given r.body reply)
    → AllHold (ledger_checks c m)
answered_hold c m at asked r reply is may =
    subst (λ (d : Direction). AllHold (ledger_checks_by d c m)) (sym is.1.reply.1.0) (
      (λ p s said answers too.
          let both = answers_one c m asked p r s is.1 answers in
          let replies : reply ≡ said = reply_is_one s m.bytes reply said (subst (λ (x : PlainRequest). IsReply x m.bytes reply) both.1 is.2) too in
          subst (λ x. All MayBeGiven (nodes_given s.body x)) replies (subst (λ (x : PlainRequest). All MayBeGiven (nodes_given x.body reply)) both.1 may)),
      tt,
    )

pub answered_fail : (c : List Message) (m : Message) (at asked : ℕ) (r : PlainRequest) (reply : PlainReply) (code : ℕ) → IsEvent c m (Answered at asked r reply)
    → (Wanted : Type 0) → IsAnsweredRefusal r reply Wanted (Refused code) → FirstFailure (ledger_checks c m) code
answered_fail c m at asked r reply code is Wanted fails =
    subst (λ (d : Direction). FirstFailure (ledger_checks_by d c m) code) (sym is.1.reply.1.0)
    (inl ((λ each. fails.1 (each asked r reply is.1 is.2)), fails.0))

pub notice_hold : (c : List Message) (m : Message) (at : ℕ) → IsEvent c m (Notice at) → AllHold (ledger_checks c m)
notice_hold c m at is =
    subst (λ (d : Direction). AllHold (ledger_checks_by d c m)) (sym is.1.1.0) ((λ p s said answers too. absurd (notice_no_reply m s.unique is.1 answers.reply)), tt)

-- ---- messages that pass

pub good_more : (c : List Message) (m : Message) → AreGood c → Passes c m → AreGood (c ++ m ∷ [])
good_more c m good passes i x within there =
    elim (get_cases c m i x there) [
      | inl below ↦ subst (λ (b : List Message). Passes b x) (sym (take_before c m i (omega (arith, below)))) (good i x below (get_back c (m ∷ []) i x below there))
      | inr now ↦ subst (λ (b : List Message). Passes b x) (sym (ap (λ (k : ℕ). take k (c ++ m ∷ [])) now.0 ∙ take_all_before c m))
          (subst (λ (y : Message). Passes c y) (sym now.1) passes)
    ]

-- ---- the ledger and the next message

-- the books stand before the next event
pub next_stands : (s : Inside) (old : PlainLedger) (c : List Message) (m : Message) (e : PlainEvent) → ledger_shown s ≡ old → (next : IsNext c m old e) → Stands c m next.shows.events e s.books
next_stands s old c m e view next = record {
  are = next.shows.are;
  few = next.few;
  event = next.event;
  shown = books_show s next.shows.events (subst (ShowsEvents next.shows.events) (sym view) next.shows.shown);
}

pub next_passes : (s : Inside) (old : PlainLedger) (c : List Message) (m : Message) (e : PlainEvent) → ledger_shown s ≡ old → IsNext c m old e
    → ((es : List PlainEvent) → Stands c m es e s.books → AllHold (ledger_checks c m)) → Passes c m
next_passes s old c m e view next keeps =
    hold_both (session_checks c m) (ledger_checks c m) next.allowed (keeps next.shows.events (next_stands s old c m e view next))

pub next_shows : (s t : Inside) (old : PlainLedger) (c : List Message) (m : Message) (e : PlainEvent) → ledger_shown s ≡ old → IsNext c m old e
    → ((es : List PlainEvent) → Stands c m es e s.books → AllHold (ledger_checks c m)) → ((es : List PlainEvent) → Stands c m es e s.books → BooksShow (es ++ e ∷ []) t.books)
    → t.messages ≡ s.messages + 1 → Shows (c ++ m ∷ []) (ledger_shown t)
next_shows s t old c m e view next keeps shows counted =
    let es = next.shows.events in
    let stands = next_stands s old c m e view next in
    let before : s.messages ≡ length es = ap (λ (x : PlainLedger). x.messages) view ∙ next.shows.shown.counted in
    record {
      good = good_more c m next.shows.good (next_passes s old c m e view next keeps);
      events = es ++ e ∷ [];
      are = events_more c m es e next.shows.are next.event;
      shown = shown_parts t (es ++ e ∷ []) (shows es stands) (omega (arith, counted, before, length-append es (e ∷ [])));
    }

-- a message that the session allows, and these rules refuse
pub refused_with : (c : List Message) (m : Message) (Wanted : List PlainEvent → Type 0) (es : List PlainEvent) (error : LedgerError) → AreEvents c es → IsAllowed c m
    → IsLedgerRefusal c m (Wanted es) error → IsRefusedWith c m ((other : List PlainEvent) → AreEvents c other → Wanted other) error
refused_with c m Wanted es (Refused code) are allowed refused = fails_behind (session_checks c m) (ledger_checks c m) code allowed refused
refused_with c m Wanted es Memory are allowed why =
    (hold_both (session_checks c m) (ledger_checks c m) allowed why.0, λ other too. subst Wanted (events_are_one c es other are too) why.1)

pub next_refused : (s : Inside) (old : PlainLedger) (c : List Message) (m : Message) (e : PlainEvent) (error : LedgerError) → ledger_shown s ≡ old → IsNext c m old e
    → ((es : List PlainEvent) → Stands c m es e s.books → IsLedgerRefusal c m (IsMoreKept es e) error) → IsRefusal c m e error
next_refused s old c m e error view next refused =
    refused_with c m (λ es. IsMoreKept es e) next.shows.events error next.shows.are next.allowed (refused next.shows.events (next_stands s old c m e view next))

-- fields that have what they had show what they showed
pub same_shown : (s t : Inside) → AreSame s.books t.books → t.messages ≡ s.messages → ledger_shown t ≡ ledger_shown s
same_shown s t same counted =
    let made : ℕ → Bool → List (ℕ × Lookups) → List (Key × Handle) → List (Key × List (ℕ × Place)) → List PlainCall → PlainLedger =
    λ n b k h p l. record { messages = n; truncating = b; nodes = k; handles = h; listed = p; calls = l } in
    let whole : made t.messages t.books.truncating (by_id t.books.tables.nodes.known.entries) t.books.tables.handles.opened.entries (listed_shown t.books.listings.by_key.entries) t.books.calls.calls
    ≡ made s.messages s.books.truncating (by_id s.books.tables.nodes.known.entries) s.books.tables.handles.opened.entries (listed_shown s.books.listings.by_key.entries) s.books.calls.calls =
    rw (counted, same.truncating, same_by_id s.books.tables.nodes.known.entries t.books.tables.nodes.known.entries same.nodes, same.keys, same.listed, same.calls) refl in
    whole

-- no messages
pub nothing_shown : (s : Inside) → s.messages ≡ 0 → BooksShow [] s.books → Shows [] (ledger_shown s)
nothing_shown s counted books = record {
  good = λ i m within there. absurd (omega (arith, within));
  events = [];
  are = record { counted = refl; each = λ i m e there event. absurd cc };
  shown = shown_parts s [] books counted;
}

-- ---- refusals of the next message

pub asked_refused : (c : List Message) (m : Message) (es : List PlainEvent) (at : ℕ) (r : PlainRequest) (Wanted : Type 0) (error : LedgerError) → AreEvents c es → IsEvent c m (Asked at r)
    → IsAskedRefusal es r Wanted error → IsLedgerRefusal c m Wanted error
asked_refused c m es at r Wanted (Refused code) are is fails = asked_fail c m es at r code are is fails
asked_refused c m es at r Wanted Memory are is why = (asked_hold c m es at r are is why.0, why.1)

pub answered_refused : (c : List Message) (m : Message) (at asked : ℕ) (r : PlainRequest) (reply : PlainReply) (Wanted : Type 0) (error : LedgerError) → IsEvent c m (Answered at asked r reply)
    → IsAnsweredRefusal r reply Wanted error → IsLedgerRefusal c m Wanted error
answered_refused c m at asked r reply Wanted (Refused code) is fails = answered_fail c m at asked r reply code is Wanted fails
answered_refused c m at asked r reply Wanted Memory is why = (answered_hold c m at asked r reply is why.0, why.1)

-- ---- notifications

pub notice_shows : (c : List Message) (m : Message) (es : List PlainEvent) (at : ℕ) (b : Books) → Stands c m es (Notice at) b → BooksShow (es ++ Notice at ∷ []) b
notice_shows c m es at b stands = let shown = stands.shown in record {
  truncating =
      let kept = flag_kept es (Notice at) atomic_o_trunc (λ n asked r reply i answer is. absurd cc) in
      ((λ yes. kept.1 (shown.truncating.0 yes)), (λ has. shown.truncating.1 (kept.0 has)));
  nodes = λ node. node_kept es (Notice at) node (lookup (nat_eq node) b.tables.nodes.known.entries) refl refl (shown.nodes node);
  keys = λ key. key_unmoved es (Notice at) key (lookup (key_eq key) b.tables.handles.opened.entries) refl refl (shown.keys key);
  places = unlisted_places c m es (Notice at) stands.are stands.event (λ n p r ds is. absurd cc) (λ key stood. omega (arith, stood, opened_more es (Notice at) key, closed_more es (Notice at) key))
      (place_of b.listings.by_key.entries) shown.places;
  calls = calls_kept es (Notice at) b.calls.calls shown.calls (λ p r is. absurd cc) (λ n p r reply is. absurd cc);
}

-- ---- calls

pub shown_calls : (s : Inside) (c : List Message) → Shows c (ledger_shown s) → (s.messages ≡ length c) × AreCalls c s.books.calls.calls
shown_calls s c shows =
    (shows.shown.counted ∙ shows.are.counted, record { events = shows.events; are = shows.are; exact = shows.shown.calls })

-- the calls of a ledger are those of some messages that all pass
pub some_calls : (s : Inside) (calls : List PlainCall) → calls ≡ s.books.calls.calls → ∥ ((c : List Message) × Shows c (ledger_shown s)) ∥₁
    → ∥ ((c : List Message) × AreGood c × (s.messages ≡ length c) × AreCalls c calls) ∥₁
some_calls s calls same some =
    ∥∥₁_map some (λ found.
    let said = shown_calls s found.0 found.1 in
    (found.0, found.1.good, said.0, subst (AreCalls found.0) (sym same) said.1))
