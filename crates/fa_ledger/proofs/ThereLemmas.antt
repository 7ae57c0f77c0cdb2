-- Good messages have never no calls: with each message comes its event, and with a tree request or its answer what the calls say
-- of it.
use Rattle.std.proofs.Common.{◌≡◌, ℕ, zero, suc, ◌≤◌, List, [], ◌∷◌, ◌++◌, length, take, refl, sym, subst, ◌∙◌, arith}
use Rattle.std.specs.Prelude.{All}
use Rattle.std.proofs.lemmas.List.{take_all}
use Rattle.fa_capture.specs.declared.packet.Direction.{Direction}
use Rattle.fa_capture.specs.declared.packet.Direction.TheVariants.{FromServer}
use Rattle.fa_capture.specs.Checks.{AllHold}
use Rattle.fa_capture.specs.Message.{Message}
use Rattle.fa_capture.proofs.CallerLemmas.{hold_front, hold_later, take_with_next}
use Rattle.fa_bodies.specs.Requests.{PlainRequest}
use Rattle.fa_bodies.specs.Replies.{PlainReply}
use Rattle.fa_session.specs.Allowed.{session_checks}
use Rattle.fa_session.specs.Events.{PlainEvent, IsEvent}
use Rattle.fa_session.specs.Events.PlainEvent.{Asked, Answered, Notice}
use Rattle.fa_ledger.specs.Events.{AreEvents}
use Rattle.fa_ledger.specs.Counts.{nodes_given}
use Rattle.fa_ledger.specs.Kinds.{IsTreeRequest}
use Rattle.fa_ledger.specs.Calls.{PlainCall, OpensAnew, AreCallsOf}
use Rattle.fa_ledger.specs.Passing.{MayBeGiven, ledger_checks_by, Passes, AreGood}
use Rattle.fa_ledger.specs.Laws.{CallsAreThere}
use Rattle.fa_ledger.specs.parts.Steps.{with_answer}
use Rattle.fa_ledger.proofs.EventLemmas.{element_at}
use Rattle.fa_ledger.proofs.GoodLemmas.{passes_rules}
use Rattle.fa_ledger.proofs.CallStepLemmas.{events_more, calls_kept, calls_asked, calls_answered}
use Rattle.fa_ledger.proofs.EventThereLemmas.{event_there}
use Rattle.fa_ledger.proofs.BalanceLemmas.{given_names}
use Rattle.fa_ledger.proofs.AskedThereLemmas.{mark_there, asked_there}
use Rattle.fa_ledger.proofs.FrontLemmas.{good_front}
use Rattle.fa_ledger.proofs.OperationLemmas.{reply_done}

-- the nodes that a reply gives may be given, where it passes
gives_may : (before : List Message) (m : Message) (at p : ℕ) (r : PlainRequest) (reply : PlainReply) → Passes before m → IsEvent before m (Answered at p r reply)
    → All MayBeGiven (nodes_given r.body reply)
gives_may before m at p r reply passes is =
    let rules = hold_later (session_checks before m) (ledger_checks_by m.direction before m) passes in
    let from : AllHold (ledger_checks_by FromServer before m) = subst (λ (d : Direction). AllHold (ledger_checks_by d before m)) is.1.reply.1.0 rules in
    from.0 p r reply is.1 is.2

-- ---- one message more

-- there are calls of the events and this one
abbrev Goes : List PlainEvent → PlainEvent → Type 0
Goes es e = ((calls : List PlainCall) → AreCallsOf (es ++ e ∷ []) calls → ⊥) → ⊥

module _ (c : List Message) (m : Message) (es : List PlainEvent) (calls : List PlainCall) (good : AreGood c) (passes : Passes c m) (are : AreEvents c es) (exact : AreCallsOf es calls) where
  asked_goes : (r : PlainRequest) → IsEvent c m (Asked (length es) r) → Goes es (Asked (length es) r)
  asked_goes r is none =
      let other : ¬ IsTreeRequest r.body = λ tree.
      asked_there c es are good r (passes_rules c es m r are passes is.1) tree (λ call number does waits says.
      none (calls ++ call ∷ []) (calls_asked c es are r calls call exact number does waits says)) in
      none calls (calls_kept es (Asked (length es) r) calls exact (λ p s same tree.
      let requests : r ≡ s = cc in
      other (subst (λ (x : PlainRequest). IsTreeRequest x.body) (sym requests) tree)) (λ at p s reply clash tree. absurd cc))

  answered_goes : (p : ℕ) (r : PlainRequest) (reply : PlainReply) → IsEvent c m (Answered (length es) p r reply) → Goes es (Answered (length es) p r reply)
  answered_goes p r reply is none =
      let e : PlainEvent = Answered (length es) p r reply in
      let names = given_names c es are good (length es) p r reply (gives_may c m (length es) p r reply passes is) in
      let other : ¬ IsTreeRequest r.body = λ tree.
      let done = reply_done r m.bytes reply is.2 tree in
      mark_there (OpensAnew (es ++ e ∷ []) (length es)) (λ opens marks.
      none (with_answer calls p done.0 (record { at = length es; given = names.0; opens = opens }))
      (calls_answered c m es are p r reply is calls done.0 (record { at = length es; given = names.0; opens = opens }) exact refl done.1 names.1 marks)) in
      none calls (calls_kept es e calls exact (λ q s clash tree. absurd cc) (λ at q s said same tree.
      let requests : r ≡ s = cc in
      other (subst (λ (x : PlainRequest). IsTreeRequest x.body) (sym requests) tree)))

  event_goes : (e : PlainEvent) → IsEvent c m e → Goes es e
  event_goes (Asked at r) is =
      let number : at ≡ length es = is.0 ∙ sym are.counted in
      subst (λ n. Goes es (Asked n r)) (sym number) (asked_goes r (are.counted, is.1))
  event_goes (Answered at p r reply) is =
      let number : at ≡ length es = is.0 ∙ sym are.counted in
      subst (λ n. Goes es (Answered n p r reply)) (sym number) (answered_goes p r reply (are.counted, is.1, is.2))
  event_goes (Notice at) is =
      λ none. none calls (calls_kept es (Notice at) calls exact (λ p s clash tree. absurd cc) (λ bt p s reply clash tree. absurd cc))

-- ---- all messages

-- no event has no calls
none_called : AreCallsOf [] []
none_called = record {
  rising = λ k within. absurd (omega (arith, within));
  each = λ k call within. absurd (omega (arith, within));
  complete = λ p r there tree. absurd cc;
}

-- the first n messages have events, and calls of these
first_called : (c : List Message) → AreGood c → (n : ℕ) → n ≤ length c
    → ((es : List PlainEvent) (calls : List PlainCall) → AreEvents (take n c) es → AreCallsOf es calls → ⊥) → ⊥
first_called c good zero within none =
    none [] [] (record { counted = refl; each = λ i m e message event. absurd cc }) none_called
first_called c good (suc n) within none =
    first_called c good n (omega (arith, within)) (λ es calls are exact.
    let message = element_at c n within in
    let more : take (suc n) c ≡ take n c ++ message.0 ∷ [] = take_with_next c n message.0 message.1 in
    let passes : Passes (take n c) message.0 = good n message.0 within message.1 in
    let event = event_there (take n c) message.0 (hold_front (session_checks (take n c) message.0) (ledger_checks_by message.0.direction (take n c) message.0) passes) in
    event_goes (take n c) message.0 es calls (good_front c n good) passes are exact event.0 event.1 (λ further is.
    none (es ++ event.0 ∷ []) further (subst (λ x. AreEvents x (es ++ event.0 ∷ [])) (sym more) (events_more (take n c) message.0 es event.0 are event.1)) is))

pub calls_are_there : CallsAreThere
calls_are_there c good none =
    let whole : take (length c) c ≡ c = take_all (length c) c (omega arith) in
    first_called c good (length c) (omega arith) (λ es calls are exact.
    none calls (record { events = es; are = subst (λ x. AreEvents x es) whole are; exact = exact }))
