-- Requests that come one after the other: at each place one request at most may come next. So a proposal is the front of each
-- legal order, and legal itself.
use Rattle.std.proofs.Common.{◌≡◌, ℕ, ◌<◌, ◌⊎◌, List, [], ◌∷◌, ◌++◌, take, Option, Some, None, refl, sym, ap, subst, ◌∙◌, inl, inr, arith}
use Rattle.std.specs.Prelude.{All, Contains, slice_get}
use Rattle.std.proofs.lemmas.Bool.{cases_lt, cases_eq}
use Rattle.std.proofs.lemmas.List.{append_assoc, append-nil}
use Rattle.std.proofs.lemmas.List.Elements.{All-contains}
use Rattle.std.proofs.lemmas.Option.{same_Some}
use Rattle.fa_capture.specs.Checks.{AllHold}
use Rattle.fa_capture.specs.Message.{Message}
use Rattle.fa_capture.proofs.CallerLemmas.{contains_first}
use Rattle.fa_session.specs.Answers.{IsAnsweredBy, IsUnanswered}
use Rattle.fa_ledger.specs.Calls.{PlainAnswer, PlainCall, IsCall, AreCalls}
use Rattle.fa_ledger.specs.Passing.{AreGood}
use Rattle.fa_ledger.specs.SoFar.{listing_so_far}
use Rattle.fa_ledger.specs.declared.operation.Outcome.TheVariants.{Unanswered}
use Rattle.fa_ledger.specs.Operations.{PlainOperation, ended}
use Rattle.fa_ledger.specs.Operations.PlainAction.{Write}
use Rattle.fa_ledger.specs.Operations.PlainOperation.{Acts}
use Rattle.fa_ledger.proofs.CallerLemmas.{events_are_one, call_at, call_is_one, calls_are_there, calls_end_where_answered}
use Rattle.fa_tree.specs.State.{TreeState}
use Rattle.fa_order.specs.declared.entry.Entry.{Entry}
use Rattle.fa_order.proofs.CallerLemmas.{same_entry}
use Rattle.fa_check.specs.Runs.{IsCallAt, EntrySteps, Runs, IsLegalRun}
use Rattle.fa_check.specs.Faults.{order_checks, EachPlaced}
use Rattle.fa_check.proofs.CallerLemmas.{valid_where_each_is_placed, run_is_one, run_at, tree_is_call, call_answered, call_unanswered, call_of_message}
use Rattle.fa_propose.specs.declared.proposing.TheConstants.{MAX_TRIED}
use Rattle.fa_propose.specs.Proposals.{count_proposed, entry_of, IsCandidate, HasNoStep, IsStuck, AllPlaced, IsProposedSoFar}
use Rattle.fa_propose.specs.Proposals.IsProposedSoFar.{begun, further}
use Rattle.fa_propose.specs.Laws.{IsSerial, SerialProposalIsLegal}
use Rattle.fa_propose.proofs.PlacedLemmas.{tried_is_candidate, proposed_placed, whole_proposal_is_legal}

-- ---- counts

-- none is proposed for what was answered
none_proposed : (o : PlainOperation) → (ended o ≡ Unanswered → ⊥) → count_proposed o ≡ None
none_proposed (Acts (Write offset size payload Unanswered)) answered = absurd (answered refl)
none_proposed other answered = refl

-- ---- entries

-- two counts are the same, or they are not
counts_decided : (a b : Option ℕ) → (a ≡ b) ⊎ (a ≡ b → ⊥)
counts_decided None None = inl refl
counts_decided None (Some n) = inr (λ same. cc)
counts_decided (Some m) None = inr (λ same. cc)
counts_decided (Some m) (Some n) =
    elim (cases_eq m n) [
      | inl same ↦ inl (ap (λ (k : ℕ). Some k) same)
      | inr other ↦ inr (λ same. other (same_Some m n same))
    ]

-- what holds of each that is tried holds of the only candidate
only_is_tried : {X : Type 0} (P : X → Type 0) (xs : List X) (x : X) → Contains xs x → ((y : X) → Contains xs y → y ≡ x) → All P (take MAX_TRIED xs) → P x
only_is_tried P [] x has only each = absurd (omega (arith, has.1))
only_is_tried P (y ∷ ys) x has only each = subst P (only y (contains_first y ys)) (each 0 y (omega arith))

-- ---- what may come next

-- where requests come one after the other
module _ (c : List Message) (serial : IsSerial c) (es : List Entry) where
  -- of two that may come next neither is earlier
  not_earlier : (e f : Entry) → AllHold (order_checks c es e) → AllHold (order_checks c es f) → e.at < f.at → ⊥
  not_earlier e f may too below =
      let answered = serial e.at f.at may.0 too.0 below in
      may.1.0 (too.1.1.0 e.at answered.0 may.0 answered.1 answered.2)

  -- they are the same request
  same_number : (e f : Entry) → AllHold (order_checks c es e) → AllHold (order_checks c es f) → e.at ≡ f.at
  same_number e f may too =
      elim (cases_lt e.at f.at) [
        | inl below ↦ absurd (not_earlier e f may too below)
        | inr far ↦ elim (cases_lt f.at e.at) [
          | inl below ↦ absurd (not_earlier f e too may below)
          | inr near ↦ omega (arith, far, near)
        ]
      ]

  -- where the one that may come next has no answer, all answered ones are placed
  unanswered_is_last : (e : Entry) → AllHold (order_checks c es e) → IsUnanswered c e.at → AllPlaced c es
  unanswered_is_last e may free p left =
      elim (cases_lt p e.at) [
        | inl below ↦ let answered = serial p e.at left.0 may.0 below in left.2 (may.1.1.0 p answered.0 left.0 answered.1 answered.2)
        | inr far ↦ elim (cases_lt e.at p) [
          | inl below ↦ let answered = serial e.at p may.0 left.0 below in free answered.0 answered.1
          | inr near ↦
              let same : p ≡ e.at = omega (arith, far, near) in
              free left.1.0 (subst (λ (k : ℕ). IsAnsweredBy c k left.1.0) same left.1.1)
        ]
      ]

  -- where they are not all placed, the entry that may come next is one
  next_is_one : (e f : Entry) → AllHold (order_checks c es e) → AllHold (order_checks c es f) → (AllPlaced c es → ⊥) → e ≡ f
  next_is_one e f may too left =
      let same : e.at ≡ f.at = same_number e f may too in
      elim (counts_decided e.wrote f.wrote) [
        | inl wrote ↦ same_entry e f same wrote
        | inr other ↦ absurd (left (unanswered_is_last e may (λ q answered.
            let here : e.wrote ≡ None = may.1.1.1.0.answered q answered in
            let there : f.wrote ≡ None = too.1.1.1.0.answered q (subst (λ (k : ℕ). IsAnsweredBy c k q) same answered) in
            other (here ∙ sym there))))
      ]

  -- the candidate is one
  candidate_is_one : (a b : PlainCall) → IsCandidate c es a → IsCandidate c es b → a ≡ b
  candidate_is_one a b is too =
      let events = events_are_one c is.events too.events is.are too.are in
      let exact : IsCall too.events a = subst (λ xs. IsCall xs a) events is.exact in
      call_is_one c too.events too.are a b exact too.exact (same_number (entry_of a) (entry_of b) is.placed_rightly too.placed_rightly)

  -- ---- where the proposal ends

  -- the entry that may come next proposes its call
  entry_proposes : (calls : List PlainCall) → AreCalls c calls → (e : Entry) → AllHold (order_checks c es e) → (AllPlaced c es → ⊥)
      → (place : ℕ) (call : PlainCall) → slice_get calls place ≡ Some call → call.asked ≡ e.at → entry_of call ≡ e
  entry_proposes calls are e may left place call there number = same_entry (entry_of call) e number (by call.answer refl)
    where
      by : (answer : Option PlainAnswer) → call.answer ≡ answer → count_proposed call.operation ≡ e.wrote
      by None is = absurd (left (unanswered_is_last e may (subst (IsUnanswered c) number (call_unanswered c calls are place call there is))))
      by (Some answer) is =
          let answered : IsAnsweredBy c e.at answer.at = subst (λ (k : ℕ). IsAnsweredBy c k answer.at) number (call_answered c calls are place call answer there is) in
          let waits : ended call.operation ≡ Unanswered → call.answer ≡ None = (calls_end_where_answered c are.events call are.are (call_at are.events calls are.exact.each place call there)).0 in
          let none : count_proposed call.operation ≡ None = none_proposed call.operation (λ ends. let clash : Some answer ≡ None = sym is ∙ waits ends in absurd cc) in
          none ∙ sym (may.1.1.1.0.answered answer.at answered)

  -- where none that is tried has a step, but the one that may come next has, all answered requests are placed
  stuck_placed : (e : Entry) (tree new : TreeState) → AreGood c → IsStuck c es tree → AllHold (order_checks c es e) → EntrySteps tree new c e → AllPlaced c es
  stuck_placed e tree new good stuck may steps p unplaced =
      calls_are_there c good (λ calls are.
      let found = tree_is_call c calls are e.at may.0 in
      let call = found.1.0 in
      let of_request : IsCallAt c e.at call (listing_so_far calls found.0) = call_of_message c calls are found.0 e.at call found.1.1 found.1.2 in
      let same : entry_of call ≡ e = entry_proposes calls are e may (λ all. all p unplaced) found.0 call found.1.1 found.1.2 in
      let candidate : IsCandidate c es call = record {
        events = of_request.events;
        are = of_request.are;
        exact = of_request.exact;
        placed_rightly = subst (λ (x : Entry). AllHold (order_checks c es x)) (sym same) may;
      } in
      let candidates = stuck.tried.candidates in
      let none : HasNoStep tree c call = only_is_tried (HasNoStep tree c) candidates call (stuck.tried.are.complete call candidate)
      (λ other has. candidate_is_one other call (All-contains (IsCandidate c es) candidates other stuck.tried.are.each has) candidate)
      (subst (All (HasNoStep tree c)) stuck.tried.front stuck.none) in
      none new (subst (λ (x : Entry). EntrySteps tree new c x) (sym same) steps))

-- ---- proposals

-- what is proposed so far is a front of each order that is valid
proposed_is_front : (c : List Message) (start : TreeState) (others : List Entry) → IsSerial c → EachPlaced c others → AllPlaced c others
    → {es : List Entry} {tree : TreeState} → IsProposedSoFar c start es tree → (rest : List Entry) × (others ≡ es ++ rest)
proposed_is_front c start others serial placed whole begun = (others, refl)
proposed_is_front c start others serial placed whole (further es tree new call before left next) =
    let so_far = proposed_is_front c start others serial placed whole before in
    goes_on so_far.0 so_far.1
  where
    goes_on : (rest : List Entry) → others ≡ es ++ rest → (behind : List Entry) × (others ≡ (es ++ entry_of call ∷ []) ++ behind)
    goes_on [] same = absurd (left (subst (AllPlaced c) (same ∙ append-nil es) whole))
    goes_on (e ∷ rest) same =
        let candidate = tried_is_candidate c es next.earlier next.later call next.tried in
        let one : e ≡ entry_of call = next_is_one c serial es e (entry_of call) (placed es rest e same) candidate.placed_rightly left in
        (rest, same ∙ ap (λ (x : Entry). es ++ x ∷ rest) one ∙ sym (append_assoc es (entry_of call ∷ []) rest))

pub serial_proposal_is_legal : SerialProposalIsLegal
serial_proposal_is_legal c first es others serial proposal legal =
    elim proposal.ends [
      | inl all ↦ whole_proposal_is_legal c first es legal.good proposal all
      | inr stuck ↦ ends stuck front.0 front.1
    ]
  where
    valid : EachPlaced c others × AllPlaced c others
    valid = (valid_where_each_is_placed c others).0 legal.valid

    front : (rest : List Entry) × (others ≡ es ++ rest)
    front = proposed_is_front c first others serial valid.0 valid.1 proposal.proposed

    ends : IsStuck c es proposal.last → (rest : List Entry) → others ≡ es ++ rest → IsLegalRun c first es
    ends stuck [] same = subst (IsLegalRun c first) (same ∙ append-nil es) legal
    ends stuck (e ∷ rest) same =
        let stepped = run_at c first legal.last es rest e (subst (λ xs. Runs first legal.last c xs) same legal.run) in
        let tree : stepped.0 ≡ proposal.last = run_is_one c first stepped.0 proposal.last es stepped.2 (proposed_placed c first proposal.proposed).1 in
        let steps : EntrySteps proposal.last stepped.1 c e = subst (λ t. EntrySteps t stepped.1 c e) tree stepped.3 in
        whole_proposal_is_legal c first es legal.good proposal (stuck_placed c serial es e proposal.last stepped.1 legal.good stuck (valid.0 es rest e same) steps)
