-- There is a listing so far for each offset. Whether a reply has an entry with the offset is not decided here.
use Rattle.std.proofs.Common.{◌≡◌, ℕ, zero, suc, ◌+◌, ◌<◌, ◌≤◌, Bool, true, false, List, [], length, take, Some, inl, inr, arith}
use Rattle.std.specs.Prelude.{◌≢◌, slice_get}
use Rattle.std.proofs.lemmas.Bool.{cases_lt}
use Rattle.std.proofs.lemmas.List.{length-take}
use Rattle.std.proofs.lemmas.Option.{slice_get_within}
use Rattle.fa_bodies.specs.Dirents.{PlainDirent}
use Rattle.fa_bodies.specs.Replies.PlainReply.{Listed}
use Rattle.fa_capture.specs.Message.{Message}
use Rattle.fa_session.specs.Events.{PlainEvent}
use Rattle.fa_session.specs.Events.PlainEvent.{Answered}
use Rattle.fa_ledger.specs.Events.{AreEvents}
use Rattle.fa_ledger.specs.Listings.{Part, ReachesOffset, IsLastPart, IsListedSoFar}
use Rattle.fa_ledger.specs.Listings.IsListedSoFar.{anew, unreached, further}
use Rattle.fa_ledger.specs.Laws.{ListedIsThere}
use Rattle.fa_ledger.proofs.GoodLemmas.{events_front}
use Rattle.fa_ledger.proofs.CallStepLemmas.{asked_later}
use Rattle.fa_ledger.proofs.SoFarLemmas.{answered_offset}

-- where a part reaches the offset, and at most so many events stand from its reply on, there is a last one
pub last_there : (es : List PlainEvent) (handle offset k : ℕ) (part : Part) → ReachesOffset es handle offset part → length es ≤ part.at + k
    → ((last : Part) → IsLastPart es handle offset last → ⊥) → ⊥
last_there es handle offset zero part reaches long none =
    omega (arith, long, slice_get_within es part.at (Answered part.at part.asked part.request (Listed part.entries)) reaches.there)
last_there es handle offset (suc k) part reaches long none =
    none part (record {
      reaches = reaches;
      last = λ other too.
          elim (cases_lt part.at other.at) [
            | inl later ↦ absurd (last_there es handle offset k other too (omega (arith, long, later)) none)
            | inr not_later ↦ not_later
          ];
    })

-- there is a listing so far after fewer than so many events
listed_below : (n : ℕ) (c : List Message) (es : List PlainEvent) → AreEvents c es → length es < n → (handle offset : ℕ)
    → ((entries : List PlainDirent) (adrift : Bool) → IsListedSoFar es handle offset entries adrift → ⊥) → ⊥
listed_below zero c es are short handle offset none = omega (arith, short)
listed_below (suc n) c es are short handle zero none = none [] false (anew es handle)
listed_below (suc n) c es are short handle (suc k) none =
    let away : suc k ≢ 0 = λ is. omega (arith, is) in
    none [] true (unreached es handle (suc k) away (λ part reaches.
    last_there es handle (suc k) (length es) part reaches (omega arith) (λ last is.
    let event : PlainEvent = Answered last.at last.asked last.request (Listed last.entries) in
    let there : slice_get es last.at ≡ Some event = is.reaches.there in
    let within : last.at < length es = slice_get_within es last.at event there in
    let before : last.asked < last.at = asked_later c es are last.at last.at last.asked last.request (Listed last.entries) there in
    let began = answered_offset c es are last.at last.at last.asked last.request last.entries there in
    let shorter : length (take last.asked es) < n = omega (arith, short, within, before, length-take last.asked es) in
    listed_below n (take last.asked c) (take last.asked es) (events_front c es are last.asked) shorter handle began.0
    (λ entries adrift listed. none _ adrift (further es handle (suc k) last began.0 entries adrift away is began.1 listed)))))

pub listed_is_there : ListedIsThere
listed_is_there c es are handle offset = listed_below (suc (length es)) c es are (omega arith) handle offset
