-- What the fields of a standing show, and the next message.
use Rattle.std.proofs.Common.{◌≡◌, ℕ, ◌+◌, List, [], ◌∷◌, ◌++◌, length, refl, sym, ap, subst, ◌∙◌, arith}
use Rattle.std.proofs.lemmas.List.{length-append}
use Rattle.fa_capture.specs.Checks.{AllHold}
use Rattle.fa_capture.specs.Message.{Message}
use Rattle.fa_capture.proofs.CallerLemmas.{hold_both}
use Rattle.fa_session.specs.Allowed.{session_checks}
use Rattle.fa_session.specs.Events.{PlainEvent}
use Rattle.fa_ledger.specs.declared.error.LedgerError.{LedgerError}
use Rattle.fa_ledger.specs.declared.handles.Handle.{Handle}
use Rattle.fa_ledger.specs.declared.key.Key.{Key}
use Rattle.fa_ledger.specs.declared.name.NodeName.{NodeName}
use Rattle.fa_ledger.specs.declared.nodes.Lookups.{Lookups}
use Rattle.fa_ledger.specs.declared.standing.Standing.TheInside.{Inside}
use Rattle.fa_ledger.specs.Passing.{ledger_checks, Passes}
use Rattle.fa_ledger.specs.Shows.{IsNodeOf}
use Rattle.fa_ledger.specs.Standing.{PlainStanding, StandBehind, ShowsStanding, IsNextBehind, IsMoreStanding, IsStandingRefusal}
use Rattle.fa_ledger.specs.parts.LiveParts.{LiveShows, Stands, AreSame}
use Rattle.fa_ledger.specs.parts.StandingView.{standing_shown}
use Rattle.fa_ledger.specs.parts.TableParts.{IsLedgerRefusal}
use Rattle.fa_ledger.specs.parts.View.{by_id}
use Rattle.fa_ledger.proofs.CallStepLemmas.{events_more}
use Rattle.fa_ledger.proofs.LedgerLemmas.{find_by_id, by_id_rises, same_by_id, good_more, refused_with}

-- ---- what the fields show

shown_parts : (s : Inside) (es : List PlainEvent) → LiveShows es s.live → s.messages ≡ length es → StandBehind es (standing_shown s)
shown_parts s es live counted = record {
  counted = counted;
  nodes = λ node. subst (IsNodeOf es node) (sym (find_by_id node s.live.tables.nodes.known.entries)) (live.nodes node);
  rising = by_id_rises s.live.tables.nodes.known.entries;
  handles = live.keys;
  opening = live.opening;
}

live_shows : (s : Inside) (es : List PlainEvent) → StandBehind es (standing_shown s) → LiveShows es s.live
live_shows s es shown = record {
  nodes = λ node. subst (IsNodeOf es node) (find_by_id node s.live.tables.nodes.known.entries) (shown.nodes node);
  keys = shown.handles;
  opening = shown.opening;
}

-- fields that have what they had show what they showed
pub same_shown : (s t : Inside) → AreSame s.live t.live → t.messages ≡ s.messages → standing_shown t ≡ standing_shown s
same_shown s t same counted =
    let made : ℕ → List (ℕ × Lookups) → List (Key × Handle) → List (ℕ × NodeName) → PlainStanding = λ n k h o. record { messages = n; nodes = k; handles = h; opening = o } in
    let whole : made t.messages (by_id t.live.tables.nodes.known.entries) t.live.tables.handles.opened.entries t.live.opening.entries
    ≡ made s.messages (by_id s.live.tables.nodes.known.entries) s.live.tables.handles.opened.entries s.live.opening.entries =
    rw (counted, same_by_id s.live.tables.nodes.known.entries t.live.tables.nodes.known.entries same.nodes, same.keys, same.opening) refl in
    whole

-- no messages
pub nothing_shown : (s : Inside) → s.messages ≡ 0 → LiveShows [] s.live → ShowsStanding [] (standing_shown s)
nothing_shown s counted live = record {
  good = λ i m within there. absurd (omega (arith, within));
  events = [];
  are = record { counted = refl; each = λ i m e there event. absurd cc };
  shown = shown_parts s [] live counted;
}

-- ---- the next message

module _ (s : Inside) (old : PlainStanding) (c : List Message) (m : Message) (e : PlainEvent) (view : standing_shown s ≡ old) (next : IsNextBehind c m old e) where
  -- what is alive stands before it
  pub next_stands : Stands c m next.shows.events e s.live
  next_stands = record {
    are = next.shows.are;
    few = next.few;
    event = next.event;
    shown = live_shows s next.shows.events (subst (StandBehind next.shows.events) (sym view) next.shows.shown);
  }

  pub next_passes : ((es : List PlainEvent) → Stands c m es e s.live → AllHold (ledger_checks c m)) → Passes c m
  next_passes keeps = hold_both (session_checks c m) (ledger_checks c m) next.allowed (keeps next.shows.events next_stands)

  pub next_shows : (t : Inside) → ((es : List PlainEvent) → Stands c m es e s.live → AllHold (ledger_checks c m))
      → ((es : List PlainEvent) → Stands c m es e s.live → LiveShows (es ++ e ∷ []) t.live) → t.messages ≡ s.messages + 1 → ShowsStanding (c ++ m ∷ []) (standing_shown t)
  next_shows t keeps shows counted =
      let es = next.shows.events in
      let before : s.messages ≡ length es = ap (λ (x : PlainStanding). x.messages) view ∙ next.shows.shown.counted in
      record {
        good = good_more c m next.shows.good (next_passes keeps);
        events = es ++ e ∷ [];
        are = events_more c m es e next.shows.are next.event;
        shown = shown_parts t (es ++ e ∷ []) (shows es next_stands) (omega (arith, counted, before, length-append es (e ∷ [])));
      }

  pub next_refused : (error : LedgerError) → ((es : List PlainEvent) → Stands c m es e s.live → IsLedgerRefusal c m (IsMoreStanding es e) error) → IsStandingRefusal c m e error
  next_refused error refused = refused_with c m (λ es. IsMoreStanding es e) next.shows.events error next.shows.are next.allowed (refused next.shows.events next_stands)
