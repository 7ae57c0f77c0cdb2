-- The lemmas for the crates above.
use Rattle.std.proofs.Common.{◌≡◌, ℕ, List, take, sym, subst, ap}
use Rattle.fa_capture.specs.Message.{Message}
use Rattle.fa_session.specs.Events.{PlainEvent}
use Rattle.fa_ledger.specs.Events.{AreEvents}
use Rattle.fa_ledger.specs.Names.{name_at}
use Rattle.fa_ledger.specs.Handles.{IsHandle}
use Rattle.fa_ledger.specs.Listings.{IsListingIfAny}
use Rattle.fa_ledger.specs.Laws.{NamesLookBack, CallsStay}
use Rattle.fa_ledger.proofs.EventLemmas.{events_are_one}
use Rattle.fa_ledger.proofs.GoodLemmas.{events_front}
use Rattle.fa_ledger.proofs.CallStepLemmas.{call_kept}
-- events, one more of them, and those of the first messages
pub use Rattle.fa_ledger.proofs.EventLemmas.{element_at, same_places, event_is_one, events_are_one, notice_no_reply}
pub use Rattle.fa_ledger.proofs.GoodLemmas.{events_front}
pub use Rattle.fa_ledger.proofs.CallStepLemmas.{events_more, asked_place, answered_place, asked_later, event_asked, event_unanswered, message_of, request_event, request_there}
-- one event more: counts, the names of nodes, and keys
pub use Rattle.fa_ledger.proofs.GrowthLemmas.{given_more, taken_more, name_kept, name_new, counted_named, uncounted_unnamed, named_counted}
pub use Rattle.fa_ledger.proofs.HandleLemmas.{opened_more, closed_more, open_still, open_before, open_now, since_open}
-- names that nodes have, and keys that are open
pub use Rattle.fa_ledger.proofs.NodeLemmas.{known_named, unknown_unnamed}
pub use Rattle.fa_ledger.proofs.GoodLemmas.{good_balanced, open_since}
-- results, and what was written
pub use Rattle.fa_ledger.proofs.TableLemmas.{either_way, ok_also, err_also, wrote_ok}
-- one handle, one listing
pub use Rattle.fa_ledger.proofs.HandleLemmas.{handle_is_one}
pub use Rattle.fa_ledger.proofs.ListedLemmas.{uses_is_one, listed_is_one, listing_is_one}
-- good messages, and the first fault behind them
pub use Rattle.fa_ledger.proofs.FaultLemmas.{refused_is_first, framing_is_first, good_is_whole}
-- calls, and one event more
pub use Rattle.fa_ledger.proofs.CallLemmas.{answers_at, call_at, call_with, call_is_one, calls_of_are_one, calls_are_one}
pub use Rattle.fa_ledger.proofs.CallStepLemmas.{call_kept, calls_kept, calls_asked, calls_answered}
-- messages that are allowed have events, and good ones have never no calls
pub use Rattle.fa_ledger.proofs.EventThereLemmas.{events_are_there}
pub use Rattle.fa_ledger.proofs.ThereLemmas.{calls_are_there}
-- requests, answers, good messages and calls of the first messages
pub use Rattle.fa_ledger.proofs.FrontLemmas.{asked_of_front, asked_in_front, answers_of_front, answers_in_front, good_front, unanswered, call_in_front, call_cut_off}
-- what was listed so far
pub use Rattle.fa_ledger.proofs.SoFarLemmas.{calls_list_so_far}
-- where nodes and open directories come from, and what answers a call
pub use Rattle.fa_ledger.proofs.NamingLemmas.{IsTreeAnswer, IsNamedSince, IsOpenedBefore, HasReply, name_given, lists_directory, handle_opened, call_replied}
-- operations, and what comes of those that are answered
pub use Rattle.fa_ledger.proofs.OperationLemmas.{operation_asked, lost, lost_made, lost_ended, ended_by, not_unanswered, listed_nodes, gives, ComesTo, WroteWithin, reply_comes}
pub use Rattle.fa_ledger.proofs.OperationLawLemmas.{operation_made, answer_comes, calls_end_where_answered}
-- entries of a READDIR, and that a listing has no more entries than bytes
pub use Rattle.fa_ledger.proofs.GivingLemmas.{readdir_gives_none}
pub use Rattle.fa_ledger.proofs.PlaceLemmas.{few_entries}
-- items one after the other
pub use Rattle.fa_ledger.proofs.TakingLemmas.{moved_on}

-- messages that begin alike have events that begin alike
pub events_begin : (c d : List Message) (es fs : List PlainEvent) (i : ℕ) → AreEvents c es → AreEvents d fs → take i c ≡ take i d → take i es ≡ take i fs
events_begin c d es fs i are too same =
    events_are_one (take i c) (take i es) (take i fs) (events_front c es are i) (subst (λ x. AreEvents x (take i fs)) (sym same) (events_front d fs too i))

pub names_look_back : NamesLookBack
names_look_back c d es fs i are too same =
    let first = events_begin c d es fs i are too same in (
      λ node. ap (λ x. name_at x node) first,
      λ key handle. subst (λ x. IsHandle x key handle) first,
      λ r listing. subst (λ x. IsListingIfAny x r listing) first,
      first,
    )

pub calls_stay : CallsStay
calls_stay = call_kept
