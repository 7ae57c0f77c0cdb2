-- Runs of orders that are cut at a message: the run of what is left of an order goes along with that of the whole, over a part of its
-- trees.
use Rattle.std.proofs.Common.{◌≡◌, ◌⊎◌, ℕ, ℤ, suc, ◌<◌, ◌≤◌, List, [], ◌∷◌, ◌++◌, append_assoc, append-nil, length, take, None, Some, refl, sym, ap, subst, ◌∙◌, inl, inr, arith}
use Rattle.std.specs.Prelude.{slice_get, Contains}
use Rattle.std.proofs.lemmas.Option.{slice_get_within, same_Some}
use Rattle.std.proofs.lemmas.List.{length-take, take-take}
use Rattle.fa_capture.specs.Message.{Message}
use Rattle.fa_capture.proofs.CallerLemmas.{get_in_front, contains_cases, contains_first, contains_behind}
use Rattle.fa_bodies.specs.Dirents.{PlainDirent}
use Rattle.fa_bodies.specs.Requests.{PlainRequest}
use Rattle.fa_bodies.specs.Replies.{PlainReply}
use Rattle.fa_bodies.specs.Replies.PlainReply.{Refused}
use Rattle.fa_session.specs.Answers.{AnswersAt, IsAnsweredBy, IsRepliedAt}
use Rattle.fa_session.specs.Events.{PlainEvent, IsEvent}
use Rattle.fa_session.specs.Events.PlainEvent.{Asked, Answered}
use Rattle.fa_ledger.specs.Events.{AreEvents}
use Rattle.fa_ledger.specs.Kinds.{IsFailure, OnlyReads, KeepsTree}
use Rattle.fa_ledger.specs.Listings.{offset_asked, IsListingIfAny}
use Rattle.fa_ledger.specs.Calls.{PlainAnswer, PlainCall, IsCall, IsHandleUsed, IsAnswerOf, HasAnswer}
use Rattle.fa_ledger.specs.declared.operation.Outcome.TheVariants.{Fails, Succeeds}
use Rattle.fa_ledger.specs.Operations.{PlainOperation, operation_of, ended}
use Rattle.fa_ledger.specs.Operations.PlainAction.{Write}
use Rattle.fa_ledger.specs.Operations.PlainOperation.{Acts}
use Rattle.fa_ledger.proofs.CallerLemmas.{lost, ended_by, reply_comes, request_there, element_at, event_is_one, events_front, good_front, unanswered, call_in_front, call_cut_off, answers_at, IsTreeAnswer, lists_directory, handle_opened, call_replied}
use Rattle.fa_tree.specs.State.{TreeState}
use Rattle.fa_tree.specs.Resolved.{resolved}
use Rattle.fa_tree.specs.Operations.{count_written}
use Rattle.fa_tree.proofs.CallerLemmas.{IsPartOf, whole_part, UsesKept, OpensNone, step_same, step_failed, step_read, step_lost, unknown_fails}
use Rattle.fa_order.specs.declared.entry.Entry.{Entry}
use Rattle.fa_check.specs.Orders.{IsTreeRequestAt, IsChoice}
use Rattle.fa_check.specs.Runs.{IsListedFrom, IsCallAt, EntrySteps, Runs}
use Rattle.fa_check.specs.Faults.{EachPlaced}
use Rattle.fa_check.specs.Cuts.{IsAnsweredBefore, IsAnsweredLate, wrote_without, Goes, Stays, AreLeft}
use Rattle.fa_check.specs.Laws.{CutIsLegal, ExplainedIsLegalCut, LegalExplains, ExplainsAllIsLegal}
use Rattle.fa_check.proofs.OrderLemmas.{valid_placed, placed_valid}
use Rattle.fa_check.proofs.RunLemmas.{run_more}
use Rattle.fa_check.proofs.UnknownLemmas.{step_known}
use Rattle.fa_check.proofs.CutLemmas.{not_late, stays_at, front_placed, front_sent, cut_placed, cut_valid}

-- ---- the calls of the first messages

module _ (c : List Message) (m p : ℕ) (call : PlainCall) (so_far : List PlainDirent) (is : IsCallAt c p call so_far) (below : p < m) where
  asked_below : call.asked < m
  asked_below = let number = is.number in omega (arith, number, below)

  -- what was listed so far for it is so in the front
  listed_front : (other : PlainCall) → other.asked ≡ call.asked → (exact : IsCall (take m is.events) other)
      → IsListedFrom (take p (take m is.events)) exact.request (offset_asked exact.request.body) so_far
  listed_front other asked exact =
      let r = is.exact.request in
      let there : slice_get (take m is.events) call.asked ≡ Some (Asked call.asked r) = get_in_front is.events m call.asked (Asked call.asked r) asked_below is.exact.there in
      let same : exact.request ≡ r = request_there (take m is.events) call.asked other r exact asked there in
      subst (λ (x : PlainRequest). IsListedFrom (take p (take m is.events)) x (offset_asked x.body) so_far) (sym same)
      (subst (λ (before : List PlainEvent). IsListedFrom before r (offset_asked r.body) so_far) (sym (take-take p m is.events (omega (arith, below)))) is.listed)

  -- a call that is not answered late is one of them
  same_call : ((answer : PlainAnswer) → call.answer ≡ Some answer → answer.at < m) → IsCallAt (take m c) p call so_far
  same_call early =
      let exact = call_in_front is.events m call is.exact asked_below early in
      record { events = take m is.events; are = events_front c is.events is.are m; exact = exact; number = is.number; listed = listed_front call refl exact }

  -- one that is answered late is one of them without its answer
  cut_call : (answer : PlainAnswer) → call.answer ≡ Some answer → m ≤ answer.at → IsCallAt (take m c) p (unanswered call) so_far
  cut_call answer has late =
      let exact = call_cut_off is.events m call is.exact asked_below c is.are answer has late in
      record { events = take m is.events; are = events_front c is.events is.are m; exact = exact; number = is.number; listed = listed_front (unanswered call) refl exact }

  -- the handle that it lists by was opened by an answer before m
  uses_before : UsesKept (IsAnsweredBefore c m) call
  uses_before l lists h used =
      let es : List PlainEvent = is.events in
      let asked = is.exact.asked in
      let r = is.exact.request in
      let listing : IsListingIfAny (take call.asked es) r (Some l) = subst (IsListingIfAny (take call.asked es) r) lists asked.listing in
      let uses = listing.uses in
      let by_key : IsHandleUsed (take call.asked es) (Some uses.key) call.handle = subst (λ k. IsHandleUsed (take call.asked es) k call.handle) uses.used asked.handle in
      let opened = handle_opened c es is.are call.asked uses.key by_key.0 (lists_directory (take call.asked es) r listing.offset uses.key listing.asks uses.used) by_key.2 in
      let same : by_key.0 ≡ h = same_Some by_key.0 h (sym by_key.1 ∙ used) in
      let before = opened.answer.before in
      let early = asked_below in
      subst (IsAnsweredBefore c m) same (opened.by, opened.answer.answered, omega (arith, before, early))

-- ---- the reply of a call

-- what replies is the event of an answer
reply_event : (c : List Message) (es : List PlainEvent) → AreEvents c es → (q p : ℕ) (r : PlainRequest) (reply : PlainReply) → IsRepliedAt c q p r reply → slice_get es q ≡ Some (Answered q p r reply)
reply_event c es are q p r reply at =
    let within : q < length c = slice_get_within c q at.0 at.1 in
    let event = element_at es q (omega (arith, within, are.counted)) in
    let here : IsEvent (take q c) at.0 (Answered q p r reply) = (omega (arith, within, length-take q c), at.2, at.3) in
    event.1 ∙ ap (λ (e : PlainEvent). Some e) (event_is_one (take q c) at.0 event.0 (Answered q p r reply) (are.each q at.0 event.0 at.1 event.1) here)

-- The call of a request that was answered late: its answer is late, and what came of it is this.
record IsLateCall (c : List Message) (m : ℕ) (call : PlainCall) (o : PlainOperation) : Type 0 where
  answer : PlainAnswer
  has : call.answer ≡ Some answer
  late : m ≤ answer.at
  does : call.operation ≡ o

late_call : (c : List Message) (m p : ℕ) (call : PlainCall) (so_far : List PlainDirent) → IsCallAt c p call so_far → (o : PlainOperation) → IsTreeRequestAt c p → IsAnsweredLate c m p o → IsLateCall c m call o
late_call c m p call so_far is o tree late =
    let q : ℕ = late.0 in
    let r : PlainRequest = late.1 in
    let reply : PlainReply = late.2 in
    let there : slice_get is.events q ≡ Some (Answered q p r reply) = reply_event c is.events is.are q p r reply late.3 in
    let answer : IsTreeAnswer c is.events (suc q) q p r reply =
    record { there = there; before = omega arith; tree = tree; answered = (r, (late.3.0, late.3.1, late.3.2)) } in
    let has = call_replied c is.events is.are call is.exact (suc q) q r reply (subst (λ (n : ℕ). IsTreeAnswer c is.events (suc q) q n r reply) (sym is.number) answer) in
    record {
      answer = has.answer;
      has = has.has;
      late = let place = has.place in let far = late.4 in omega (arith, place, far);
      does =
          same_Some call.operation o
          (sym has.of_call.does ∙ ap (λ (x : PlainRequest). operation_of x.body (Some has.of_call.reply)) has.same ∙ ap (λ (x : PlainReply). operation_of r.body (Some x)) has.says ∙ late.5);
    }

-- what was answered failed or succeeded
late_cases : (c : List Message) (m p : ℕ) (o : PlainOperation) → IsAnsweredLate c m p o → ((error : ℤ) × (ended o ≡ Fails error)) ⊎ (ended o ≡ Succeeds tt)
late_cases c m p o late = by late.2 (reply_comes late.1 late.3.0.bytes late.2 o late.3.3 late.5).ends
  where
    by : (reply : PlainReply) → ended o ≡ ended_by reply → ((error : ℤ) × (ended o ≡ Fails error)) ⊎ (ended o ≡ Succeeds tt)
    by (Refused error) ends = inl (error, ends)
    by other ends = inr ends

-- what is left carries the count that was answered
counts_alike : (o : PlainOperation) → count_written (lost o) (wrote_without o None) ≡ count_written o None
counts_alike (Acts (Write offset size payload (Succeeds count))) = refl
counts_alike other = refl

-- ---- a step of the whole, in the part

module _ (c : List Message) (m : ℕ) (whole new part : TreeState) (e : Entry) (step : EntrySteps whole new c e) (p : IsPartOf (IsAnsweredBefore c m) whole part) (tree : IsTreeRequestAt c e.at) where
  -- a late answer opens nothing that is kept
  opens_late : (o : PlainOperation) → IsAnsweredLate c m e.at o → OpensNone (IsAnsweredBefore c m) step.call
  opens_late o late opens kept = not_late c m e.at o late (subst (IsAnsweredBefore c m) step.of_request.number kept)

  -- an entry that goes leaves the part a part
  entry_goes : Goes c m e → IsPartOf (IsAnsweredBefore c m) new part
  entry_goes (inl none) = absurd (none tree)
  entry_goes (inr (o, late, leaves)) =
      let call = step.call in
      let is = late_call c m e.at call step.so_far step.of_request o tree late in
      elim (late_cases c m e.at o late) [
        | inl error ↦ step_failed (IsAnsweredBefore c m) whole part new call e.wrote step.so_far p step.steps error.0 (ap ended is.does ∙ error.1)
        | inr success ↦ elim leaves [
          | inl fails ↦ absurd (subst IsFailure success fails)
          | inr reads ↦
              step_read (IsAnsweredBefore c m) whole part new call e.wrote step.so_far p step.steps (ap ended is.does ∙ success) (opens_late o late)
              (subst OnlyReads (sym is.does) reads)
        ]
      ]

  -- one that stays steps in the part, where that knows what it names
  abbrev Follows : Entry → Type 0
  Follows left = (after : TreeState) × EntrySteps part after (take m c) left × IsPartOf (IsAnsweredBefore c m) new after

  module _ (below : e.at < m) (choice : IsChoice c e)
      (knows : (left : Entry) → left.at ≡ e.at → (call : PlainCall) (so_far : List PlainDirent) → IsCallAt (take m c) left.at call so_far → resolved part call ≡ None → ⊥) where
    stays_same : ((q : ℕ) → IsAnsweredBy c e.at q → q < m) → Follows e
    stays_same early =
        let of : IsCallAt (take m c) e.at step.call step.so_far =
        same_call c m e.at step.call step.so_far step.of_request below (λ answer has.
        let r = step.of_request.exact.request in
        let is : IsAnswerOf step.of_request.events r step.call answer = subst (HasAnswer step.of_request.events r step.call) has step.of_request.exact.answered in
        let answers = answers_at c step.of_request.events step.of_request.are answer.at answer.at step.call.asked r is.reply is.there in
        early answer.at (r, subst (λ (n : ℕ). AnswersAt c answer.at n r) step.of_request.number answers)) in
        let followed = step_same (IsAnsweredBefore c m) whole part new step.call e.wrote step.so_far p step.steps (knows e refl step.call step.so_far of)
        (uses_before c m e.at step.call step.so_far step.of_request below) in
        (followed.0, record { call = step.call; so_far = step.so_far; of_request = of; steps = followed.1 }, followed.2)

    stays_without : (o : PlainOperation) → IsAnsweredLate c m e.at o → (KeepsTree o → ⊥) → Follows (record { at = e.at; wrote = wrote_without o e.wrote })
    stays_without o late changes =
        let call = step.call in
        let is = late_call c m e.at call step.so_far step.of_request o tree late in
        let success : ended o ≡ Succeeds tt =
        elim (late_cases c m e.at o late) [
          | inl error ↦ absurd (changes (inl (subst IsFailure (sym error.1) tt)))
          | inr succeeds ↦ succeeds
        ] in
        let of : IsCallAt (take m c) e.at (unanswered call) step.so_far = cut_call c m e.at call step.so_far step.of_request below is.answer is.has is.late in
        let left : Entry = record { at = e.at; wrote = wrote_without o e.wrote } in
        let carries : e.wrote ≡ None = choice.answered late.0 (late.1, (late.3.0, late.3.1, late.3.2)) in
        let count : count_written (lost call.operation) left.wrote ≡ count_written call.operation e.wrote = rw (is.does, carries) (counts_alike o) in
        let followed = step_lost (IsAnsweredBefore c m) whole part new call e.wrote step.so_far p step.steps (ap ended is.does ∙ success) (opens_late o late) left.wrote count
        (knows left refl (unanswered call) step.so_far of) (uses_before c m e.at call step.so_far step.of_request below) in
        (followed.0, record { call = unanswered call; so_far = step.so_far; of_request = of; steps = followed.1 }, followed.2)

    entry_stays : (left : Entry) → Stays c m e left → Follows left
    entry_stays left (tree_, inl same) = subst Follows (sym same.1) (stays_same same.0)
    entry_stays left (tree_, inr late) = subst Follows (sym late.3) (stays_without late.0 late.1 late.2)

-- ---- runs

-- a run of parts begins with a run of the first
run_front : (c : List Message) (first last : TreeState) (es later : List Entry) → Runs first last c (es ++ later) → (between : TreeState) × Runs first between c es
run_front c first last [] later run = (first, refl)
run_front c first last (e ∷ es) later run =
    let rest = run_front c run.0 last es later run.2 in
    (rest.0, (run.0, run.1, rest.1))

-- what holds of each entry of the front
pub record IsInFront (c : List Message) (m : ℕ) (e : Entry) : Type 0 where
  pub below : e.at < m
  pub tree : IsTreeRequestAt c e.at
  pub choice : IsChoice c e

module _ (c : List Message) (m : ℕ) (first : TreeState) (cut : List Entry) (placed : EachPlaced (take m c) cut) where
  -- behind the entries that are left before it, the part knows what the call of an entry names
  known_left : (earlier later : List Entry) (left : Entry) (part : TreeState) → cut ≡ earlier ++ left ∷ later → Runs first part (take m c) earlier
      → (call : PlainCall) (so_far : List PlainDirent) → IsCallAt (take m c) left.at call so_far → resolved part call ≡ None → ⊥
  known_left earlier later left part parts run call so_far of none =
      step_known (take m c) first part earlier left run (placed earlier later left parts).1.1.0
      (record { call = call; so_far = so_far; of_request = of; fails = unknown_fails part call left.wrote so_far none })

  -- what is left of a run goes along with it
  cut_run : (es left earlier : List Entry) (whole part last : TreeState) → ((e : Entry) → Contains es e → IsInFront c m e) → AreLeft c m es left → cut ≡ earlier ++ left
      → Runs first part (take m c) earlier → IsPartOf (IsAnsweredBefore c m) whole part → Runs whole last c es → (end : TreeState) × Runs first end (take m c) cut
  cut_run [] left earlier whole part last each are parts run p on =
      (part, subst (Runs first part (take m c)) (sym (parts ∙ ap (λ (xs : List Entry). earlier ++ xs) are ∙ append-nil earlier)) run)
  cut_run (e ∷ es) left earlier whole part last each (inl gone) parts run p on =
      let own = each e (contains_first e es) in
      cut_run es left earlier on.0 part last (λ f has. each f (contains_behind e es f has)) gone.1 parts run (entry_goes c m whole on.0 part e on.1 p own.tree gone.0) on.2
  cut_run (e ∷ es) left earlier whole part last each (inr (f, rest, is, stays, are)) parts run p on =
      let own = each e (contains_first e es) in
      let whole_parts : cut ≡ earlier ++ f ∷ rest = parts ∙ ap (λ (xs : List Entry). earlier ++ xs) is in
      let knows : (x : Entry) → x.at ≡ e.at → (call : PlainCall) (so_far : List PlainDirent) → IsCallAt (take m c) x.at call so_far → resolved part call ≡ None → ⊥ =
      λ x at call so_far of.
      known_left earlier rest f part whole_parts run call so_far (subst (λ (n : ℕ). IsCallAt (take m c) n call so_far) (at ∙ sym (stays_at c m e f stays)) of) in
      let followed = entry_stays c m whole on.0 part e on.1 p own.tree own.below own.choice knows f stays in
      cut_run es rest (earlier ++ f ∷ []) on.0 followed.0 last (λ g has. each g (contains_behind e es g has)) are (whole_parts ∙ sym (append_assoc earlier (f ∷ []) rest))
      (run_more (take m c) first part followed.0 earlier f run followed.1) followed.2 on.2

-- an element of a list, with what stands around it
pub contained_parts : (es : List Entry) (e : Entry) → Contains es e → (before after : List Entry) × (es ≡ before ++ e ∷ after)
contained_parts [] e has = absurd (omega (arith, has.1))
contained_parts (f ∷ es) e has =
    elim (contains_cases f es e has) [
      | inl here ↦ ([], es, ap (λ (x : Entry). x ∷ es) here)
      | inr behind ↦ let found = contained_parts es e behind in (f ∷ found.0, found.1, ap (λ (xs : List Entry). f ∷ xs) found.2)
    ]

-- what is left of entries that explain the replies before m is legal
pub explained_is_legal_cut : ExplainedIsLegalCut
explained_is_legal_cut c first es cut m good explained k =
    let placed : EachPlaced c es = explained.placed in
    let each : (e : Entry) → Contains k.front e → IsInFront c m e =
    λ e has.
    let around = contained_parts k.front e has in
    let hold = front_placed c m es cut placed k around.0 around.1 e around.2 in
    record {
      below = front_sent c m es cut placed k around.0 around.1 e around.2;
      tree = hold.0;
      choice = hold.1.1.1.0;
    } in
    let run = run_front c first explained.last k.front k.behind (subst (Runs first explained.last c) k.parts explained.run) in
    let found = cut_run c m first cut (cut_placed c m es cut placed k) k.front cut [] first first run.0 each k.left refl refl (whole_part (IsAnsweredBefore c m) first) run.1 in
    record {
      good = good_front c m good;
      valid = cut_valid c m es cut placed k explained.held;
      last = found.0;
      run = found.1;
    }

-- a legal run explains the replies before each message
pub legal_explains : LegalExplains
legal_explains c first es m legal = record {
  placed = valid_placed c es legal.valid;
  last = legal.last;
  run = legal.run;
  held = λ p tree before. legal.valid.complete p before.0 tree before.1;
}

-- and what explains those of all messages is one
pub explains_all_is_legal : ExplainsAllIsLegal
explains_all_is_legal c first es good explained = record {
  good = good;
  valid = placed_valid c es explained.placed
      (λ p left. let by = left.1.1 in left.2 (explained.held p left.0 (left.1.0, by, slice_get_within c left.1.0 by.1.0 by.1.1)));
  last = explained.last;
  run = explained.run;
}

pub cut_is_legal : CutIsLegal
cut_is_legal c first es cut m legal k = explained_is_legal_cut c first es cut m legal.good (legal_explains c first es m legal) k
