-- What holds of events of messages that are good: no key is closed more often than opened, and each open key has an
-- event since which it has been open.
use Rattle.std.proofs.Common.{◌≡◌, ℕ, zero, suc, ◌<◌, ◌≤◌, true, false, List, [], ◌∷◌, ◌++◌, length, take, Some, None, refl, sym, ap, subst, ◌∙◌, inl, inr, arith}
use Rattle.std.specs.Prelude.{if◌then◌else◌, option_and_then}
use Rattle.std.proofs.lemmas.Bool.{cases_lt}
use Rattle.std.proofs.lemmas.Option.{slice_get_within, same_Some}
use Rattle.std.proofs.lemmas.List.{take_all, length-take, take-take}
use Rattle.fa_capture.specs.declared.packet.Direction.{Direction}
use Rattle.fa_capture.specs.declared.packet.Direction.TheVariants.{ToServer}
use Rattle.fa_capture.specs.Checks.{AllHold}
use Rattle.fa_capture.specs.Message.{Message}
use Rattle.fa_capture.proofs.CallerLemmas.{hold_later, get_of_front, take_with_next}
use Rattle.fa_bodies.specs.Requests.{PlainRequest}
use Rattle.fa_session.specs.Allowed.{session_checks}
use Rattle.fa_session.specs.Answers.{IsRequestMessage}
use Rattle.fa_session.specs.Events.{PlainEvent, IsEvent}
use Rattle.fa_session.specs.Events.PlainEvent.{Asked, Answered, Notice}
use Rattle.fa_ledger.specs.declared.key.Key.{Key}
use Rattle.fa_ledger.specs.Events.{AreEvents}
use Rattle.fa_ledger.specs.Keys.{key_at, key_used}
use Rattle.fa_ledger.specs.Handles.{is_closing, closing, times_opened, times_closed, IsOpen, IsOpenSince}
use Rattle.fa_ledger.specs.Passing.{AreGood, UsesOpen, NamesKnown, TakesWithin, ledger_checks_by, Passes}
use Rattle.fa_ledger.proofs.EventLemmas.{element_at}
use Rattle.fa_ledger.proofs.HandleLemmas.{IsBalanced, opened_more, closed_more, closes_or_not, newly_open, open_still, open_now}

-- ---- fronts

-- the first events are those of the first messages
pub events_front : (c : List Message) (es : List PlainEvent) → AreEvents c es → (n : ℕ) → AreEvents (take n c) (take n es)
events_front c es are n = record {
  counted = length-take n es ∙ (rw are.counted refl) ∙ sym (length-take n c);
  each = λ i m e message event.
      let within : i < length (take n c) = slice_get_within (take n c) i m message in
      let below : i ≤ n = omega (arith, within, length-take n c) in
      subst (λ before. IsEvent before m e) (sym (take-take i n c below)) (are.each i m e (get_of_front c n i m message) (get_of_front es n i e event));
}

-- ---- requests of good messages

-- the rules of nodes and handles hold of a request that passes
pub record KeepsRules (es : List PlainEvent) (r : PlainRequest) : Type 0 where
  pub known : NamesKnown es r
  pub within : TakesWithin es r
  pub uses : UsesOpen es r

pub passes_rules : (before : List Message) (es : List PlainEvent) (m : Message) (r : PlainRequest) → AreEvents before es → Passes before m → IsRequestMessage m r → KeepsRules es r
passes_rules before es m r are passes is =
    let rules = hold_later (session_checks before m) (ledger_checks_by m.direction before m) passes in
    let asked : AllHold (ledger_checks_by ToServer before m) = subst (λ (d : Direction). AllHold (ledger_checks_by d before m)) is.0 rules in
    record { known = asked.0 es r are is; within = asked.1.0 es r are is; uses = asked.1.1.0 es r are is }

-- ---- closings

-- only a request closes, the key that it uses
pub closing_asked : (before : List PlainEvent) (e : PlainEvent) (key : Key) → closing before e ≡ Some key
    → (at : ℕ) × (r : PlainRequest) × (e ≡ Asked at r) × (key_used before r ≡ Some key)
closing_asked before (Asked at r) key is =
    elim (is_closing r.body) as (λ b. (if b then key_used before r else None) ≡ Some key → (n : ℕ) × (s : PlainRequest) × (Asked at r ≡ Asked n s) × (key_used before s ≡ Some key)) [
      | true ↦ λ used. (at, r, refl, used)
      | false ↦ λ clash. absurd cc
    ] is
closing_asked before (Answered at asked r reply) key is = absurd cc
closing_asked before (Notice at) key is = absurd cc

-- the key that a request uses is open, where it keeps the rules
pub used_open : (es : List PlainEvent) (r : PlainRequest) (key : Key) → UsesOpen es r → key_used es r ≡ Some key → IsOpen es key
used_open es r key (inl none) used =
    let nothing : key_used es r ≡ None = ap (option_and_then (key_at es r.node)) none in
    absurd cc
used_open es r key (inr open_one) used =
    let same : open_one.0 ≡ key = same_Some open_one.0 key (sym open_one.1 ∙ used) in
    subst (IsOpen es) same open_one.2

-- no key is closed more often than opened
pub good_balanced : (c : List Message) (es : List PlainEvent) → AreEvents c es → AreGood c → (n : ℕ) → n ≤ length es → (key : Key) → IsBalanced (take n es) key
good_balanced c es are good zero within key = omega arith
good_balanced c es are good (suc n) within key =
    let before = good_balanced c es are good n (omega (arith, within)) key in
    let event = element_at es n within in
    let message = element_at c n (omega (arith, within, are.counted)) in
    let more : take (suc n) es ≡ take n es ++ event.0 ∷ [] = take_with_next es n event.0 event.1 in
    let balanced : IsBalanced (take n es ++ event.0 ∷ []) key =
    elim (closes_or_not key (take n es) event.0) [
      | inl closes ↦
          let asked = closing_asked (take n es) event.0 key closes.0 in
          let is : IsEvent (take n c) message.0 (Asked asked.0 asked.1) = subst (IsEvent (take n c) message.0) asked.2 (are.each n message.0 event.0 message.1 event.1) in
          let passes = good n message.0 (omega (arith, within, are.counted)) message.1 in
          let rules = passes_rules (take n c) (take n es) message.0 asked.1 (events_front c es are n) passes is.1 in
          let open_one = used_open (take n es) asked.1 key rules.uses asked.3 in
          omega (arith, open_one, closes.1, opened_more (take n es) event.0 key, closed_more (take n es) event.0 key)
      | inr none ↦ omega (arith, before, none, opened_more (take n es) event.0 key, closed_more (take n es) event.0 key)
    ] in
    subst (λ x. IsBalanced x key) (sym more) balanced

-- ---- open keys

-- an open key has an event since which it has been open, among the first n
open_some : (c : List Message) (es : List PlainEvent) → AreEvents c es → AreGood c → (key : Key) (n : ℕ) → n ≤ length es → IsOpen (take n es) key → (r : ℕ) × IsOpenSince (take n es) key r
open_some c es are good key zero within stands = absurd (omega (arith, stands))
open_some c es are good key (suc n) within stands =
    let event = element_at es n within in
    let more : take (suc n) es ≡ take n es ++ event.0 ∷ [] = take_with_next es n event.0 event.1 in
    let now : IsOpen (take n es ++ event.0 ∷ []) key = subst (λ x. IsOpen x key) more stands in
    elim (cases_lt (times_closed (take n es) key) (times_opened (take n es) key)) [
      | inl before ↦
          let found = open_some c es are good key n (omega (arith, within)) before in
          (found.0, subst (λ x. IsOpenSince x key found.0) (sym more) (open_still (take n es) event.0 key found.0 found.1 now))
      | inr not_before ↦
          let opens = newly_open (take n es) event.0 key (good_balanced c es are good n (omega (arith, within)) key) (λ stood. omega (arith, stood, not_before)) now in
          (length (take n es), subst (λ x. IsOpenSince x key (length (take n es))) (sym more) (open_now (take n es) event.0 key opens.0 opens.1 opens.2 now))
    ]

pub open_since : (c : List Message) (es : List PlainEvent) → AreEvents c es → AreGood c → (key : Key) → IsOpen es key → (r : ℕ) × IsOpenSince es key r
open_since c es are good key stands =
    let whole : take (length es) es ≡ es = take_all (length es) es (omega arith) in
    let found = open_some c es are good key (length es) (omega arith) (subst (λ x. IsOpen x key) (sym whole) stands) in
    (found.0, subst (λ x. IsOpenSince x key found.0) whole found.1)
