-- One event more: the openings that wait for their answers, and what an answer opens.
use Rattle.std.proofs.Common.{◌≡◌, ℕ, ◌<◌, true, false, cond, List, [], ◌∷◌, ◌++◌, length, take, Option, None, Some, refl, sym, subst, ◌∙◌, inl, inr, arith}
use Rattle.std.specs.Prelude.{slice_get, nat_eq, map}
use Rattle.std.specs.Map.{lookup}
use Rattle.std.proofs.lemmas.Bool.Decides.{nat_tests}
use Rattle.std.proofs.lemmas.Option.{slice_get_within}
use Rattle.fa_capture.specs.Message.{Message}
use Rattle.fa_capture.proofs.CallerLemmas.{get_kept, get_back, get_last, get_cases, take_before, take_all_before}
use Rattle.fa_bodies.specs.Requests.{PlainRequest, PlainBody}
use Rattle.fa_bodies.specs.Requests.PlainBody.{Open, Opendir}
use Rattle.fa_bodies.specs.Replies.{PlainReply}
use Rattle.fa_session.specs.Events.{PlainEvent, IsEvent}
use Rattle.fa_session.specs.Events.PlainEvent.{Asked, Answered}
use Rattle.fa_ledger.specs.declared.name.NodeName.{NodeName}
use Rattle.fa_ledger.specs.Events.{AreEvents}
use Rattle.fa_ledger.specs.Counts.{nodes_given}
use Rattle.fa_ledger.specs.Kinds.{IsTreeRequest}
use Rattle.fa_ledger.specs.Names.{name_at}
use Rattle.fa_ledger.specs.Handles.{is_closing, opening}
use Rattle.fa_ledger.specs.Standing.{OpensItsNode, WaitsToOpen, IsOpeningOf}
use Rattle.fa_ledger.specs.parts.LiveParts.{OpeningsShow, opened_under}
use Rattle.fa_ledger.proofs.CallStepLemmas.{asked_later, event_asked, event_unanswered}
use Rattle.fa_ledger.proofs.ReplyLemmas.{created_named, opening_answered}

-- ---- kinds of requests

-- OPEN and OPENDIR are tree requests
pub opens_tree : (b : PlainBody) → OpensItsNode b → IsTreeRequest b
opens_tree (Open o) opens = refl
opens_tree (Opendir o) opens = refl
opens_tree other opens = absurd opens

-- and close nothing
pub opens_not_closing : (b : PlainBody) → OpensItsNode b → is_closing b ≡ false
opens_not_closing (Open o) opens = refl
opens_not_closing (Opendir o) opens = refl
opens_not_closing other opens = absurd opens

-- ---- one number

module _ (es : List PlainEvent) (e : PlainEvent) (asked : ℕ) where
  -- an opening that waits still does, if the event is no answer of it
  waits_still : (r : PlainRequest) → ((at : ℕ) (s : PlainRequest) (reply : PlainReply) → e ≡ Answered at asked s reply → ⊥) → WaitsToOpen es asked r → WaitsToOpen (es ++ e ∷ []) asked r
  waits_still r no_answer is = record {
    there = get_kept es (e ∷ []) asked (Asked asked r) is.there;
    opens = is.opens;
    unanswered = λ at s reply answers. elim (get_cases es e at (Answered at asked s reply) answers) [
      | inl below ↦ is.unanswered at s reply (get_back es (e ∷ []) at (Answered at asked s reply) below answers)
      | inr now ↦ no_answer at s reply (sym now.1)
    ];
  }

  -- an opening that waits did so before, if it is not the event
  waited_before : (r : PlainRequest) → ((s : PlainRequest) → OpensItsNode s.body → e ≡ Asked asked s → ⊥) → WaitsToOpen (es ++ e ∷ []) asked r → WaitsToOpen es asked r
  waited_before r no_request is = record {
    there = elim (get_cases es e asked (Asked asked r) is.there) [
      | inl below ↦ get_back es (e ∷ []) asked (Asked asked r) below is.there
      | inr now ↦ absurd (no_request r is.opens (sym now.1))
    ];
    opens = is.opens;
    unanswered = λ at s reply answers. is.unanswered at s reply (get_kept es (e ∷ []) at (Answered at asked s reply) answers);
  }

  -- what stands for a number stays, if the event is neither an opening of this number nor an answer of it
  pub opening_kept : (x : Option NodeName) → ((s : PlainRequest) → OpensItsNode s.body → e ≡ Asked asked s → ⊥) → ((at : ℕ) (s : PlainRequest) (reply : PlainReply) → e ≡ Answered at asked s reply → ⊥)
      → IsOpeningOf es asked x → IsOpeningOf (es ++ e ∷ []) asked x
  opening_kept None no_request no_answer is = λ r waits. is r (waited_before r no_request waits)
  opening_kept (Some name) no_request no_answer is =
      let within : asked < length es = slice_get_within es asked (Asked asked is.0) is.1.there in
      let front : take asked (es ++ e ∷ []) ≡ take asked es = take_before es e asked (omega (arith, within)) in
      (is.0, waits_still is.0 no_answer is.1, subst (λ before. name_at before is.0.node ≡ Some name) (sym front) is.2)

-- an opening that is asked now waits, with the name of its node
opening_asked : (c : List Message) (es : List PlainEvent) → AreEvents c es → (r : PlainRequest) (name : NodeName) → OpensItsNode r.body → name_at es r.node ≡ Some name
    → IsOpeningOf (es ++ Asked (length es) r ∷ []) (length es) (Some name)
opening_asked c es are r name opens named =
    let e : PlainEvent = Asked (length es) r in
    let none : (at : ℕ) (s : PlainRequest) (reply : PlainReply) → slice_get (es ++ e ∷ []) at ≡ Some (Answered at (length es) s reply) → ⊥ = λ at s reply answers.
    elim (get_cases es e at (Answered at (length es) s reply) answers) [
      | inl below ↦
          let later : length es < at = asked_later c es are at at (length es) s reply (get_back es (e ∷ []) at (Answered at (length es) s reply) below answers) in
          omega (arith, later, below)
      | inr now ↦ let clash : Answered at (length es) s reply ≡ Asked (length es) r = now.1 in absurd cc
    ] in
    (r, record { there = get_last es e; opens = opens; unanswered = none }, subst (λ before. name_at before r.node ≡ Some name) (sym (take_all_before es e)) named)

-- ---- the table

-- the openings that wait are the same, if the event is neither one nor an answer
pub openings_kept : (es : List PlainEvent) (e : PlainEvent) (table : List (ℕ × NodeName)) → ((asked : ℕ) (s : PlainRequest) → OpensItsNode s.body → e ≡ Asked asked s → ⊥)
    → ((at asked : ℕ) (s : PlainRequest) (reply : PlainReply) → e ≡ Answered at asked s reply → ⊥) → OpeningsShow es table → OpeningsShow (es ++ e ∷ []) table
openings_kept es e table no_request no_answer show asked =
    opening_kept es e asked (lookup (nat_eq asked) table) (no_request asked) (λ at s reply. no_answer at asked s reply) (show asked)

-- an opening that is asked is put in
pub openings_asked : (c : List Message) (es : List PlainEvent) → AreEvents c es → (at : ℕ) (r : PlainRequest) (name : NodeName) (old new : List (ℕ × NodeName)) → at ≡ length es → OpensItsNode r.body
    → name_at es r.node ≡ Some name → ((other : ℕ) → lookup (nat_eq other) new ≡ cond (nat_eq at other) (Some name) (lookup (nat_eq other) old)) → OpeningsShow es old → OpeningsShow (es ++ Asked at r ∷ []) new
openings_asked c es are at r name old new place opens named wrote show asked =
    let e : PlainEvent = Asked at r in
    elim (nat_eq at asked) as (λ b. nat_eq at asked ≡ b → lookup (nat_eq asked) new ≡ cond b (Some name) (lookup (nat_eq asked) old) → IsOpeningOf (es ++ e ∷ []) asked (lookup (nat_eq asked) new)) [
      | true ↦ λ test now.
          let same : at ≡ asked = grind (arith, nat_tests, test) in
          let waits : IsOpeningOf (es ++ e ∷ []) at (Some name) =
          subst (λ n. IsOpeningOf (es ++ Asked n r ∷ []) n (Some name)) (sym place) (opening_asked c es are r name opens named) in
          subst (IsOpeningOf (es ++ e ∷ []) asked) (sym now) (subst (λ n. IsOpeningOf (es ++ e ∷ []) n (Some name)) same waits)
      | false ↦ λ test now.
          subst (IsOpeningOf (es ++ e ∷ []) asked) (sym now)
          (opening_kept es e asked (lookup (nat_eq asked) old) (λ s too is. let same : at ≡ asked = cc in grind (arith, nat_tests, test, same)) (λ n s reply is. absurd cc) (show asked))
    ] refl (wrote asked)

-- an opening that is answered is taken out
pub openings_answered : (es : List PlainEvent) (at asked : ℕ) (r : PlainRequest) (reply : PlainReply) (old new : List (ℕ × NodeName)) → at ≡ length es
    → ((other : ℕ) → lookup (nat_eq other) new ≡ cond (nat_eq asked other) None (lookup (nat_eq other) old)) → OpeningsShow es old → OpeningsShow (es ++ Answered at asked r reply ∷ []) new
openings_answered es at asked r reply old new place took show other =
    let e : PlainEvent = Answered at asked r reply in
    elim (nat_eq asked other) as (λ b. nat_eq asked other ≡ b → lookup (nat_eq other) new ≡ cond b None (lookup (nat_eq other) old) → IsOpeningOf (es ++ e ∷ []) other (lookup (nat_eq other) new)) [
      | true ↦ λ test now.
          let same : asked ≡ other = grind (arith, nat_tests, test) in
          let there : slice_get (es ++ e ∷ []) at ≡ Some (Answered at asked r reply) = subst (λ n. slice_get (es ++ e ∷ []) n ≡ Some e) (sym place) (get_last es e) in
          let none : IsOpeningOf (es ++ e ∷ []) asked None = λ s waits. waits.unanswered at r reply there in
          subst (IsOpeningOf (es ++ e ∷ []) other) (sym now) (subst (λ n. IsOpeningOf (es ++ e ∷ []) n None) same none)
      | false ↦ λ test now.
          subst (IsOpeningOf (es ++ e ∷ []) other) (sym now)
          (opening_kept es e other (lookup (nat_eq other) old) (λ s too is. absurd cc) (λ n s said is. let same : asked ≡ other = cc in grind (arith, nat_tests, test, same)) (show other))
    ] refl (took other)

-- ---- what an answer opens

pub opening_under : (c : List Message) (m : Message) (es : List PlainEvent) → AreEvents c es → (at asked : ℕ) (r : PlainRequest) (reply : PlainReply) → IsEvent c m (Answered at asked r reply)
    → (names : List NodeName) → map (λ id. name_at (es ++ Answered at asked r reply ∷ []) id) (nodes_given r.body reply) ≡ map (λ name. Some name) names
    → (x : Option NodeName) → IsOpeningOf es asked x → opening es (Answered at asked r reply) ≡ opened_under x names r.body reply
opening_under c m es are at asked r reply event names given None is =
    created_named (take asked es) (es ++ Answered at asked r reply ∷ []) r.node names r.body reply
    (λ opens. is r (record { there = event_asked c m es are at asked r reply event; opens = opens; unanswered = event_unanswered c m es are at asked r reply event })) given
opening_under c m es are at asked r reply event names given (Some name) is =
    let both : Some (Asked asked is.0) ≡ Some (Asked asked r) = sym is.1.there ∙ event_asked c m es are at asked r reply event in
    let same : is.0 ≡ r = cc in
    opening_answered es at asked r reply name names (subst (λ (s : PlainRequest). name_at (take asked es) s.node ≡ Some name) same is.2) given
