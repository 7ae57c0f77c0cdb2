-- How many of the first messages of a capture have no order alone: between which numbers it lies.
use Rattle.std.proofs.Common.{◌≡◌, ℕ, ◌+◌, ◌<◌, ◌≤◌, List, length, take, Option, None, IfSome, refl, sym, subst, ap, inl, inr, arith}
use Rattle.std.proofs.Math.Logic.{∥∥₁_elim}
use Rattle.std.proofs.lemmas.Bool.{cases_lt}
use Rattle.fa_capture.specs.declared.capture.Capture.{Capture}
use Rattle.fa_capture.specs.Captures.{records_of, IsCaptureOf}
use Rattle.fa_capture.specs.Message.{Message}
use Rattle.fa_capture.proofs.CallerLemmas.{one_reading, records_length}
use Rattle.fa_ledger.specs.Passing.{IsGoodCapture}
use Rattle.fa_tree.specs.State.{TreeState}
use Rattle.fa_check.specs.Runs.{HasOrder}
use Rattle.fa_check.proofs.CallerLemmas.{legal_explains}
use Rattle.fa_search.specs.Searches.{HasNoOrder}
use Rattle.fa_search.specs.Laws.{StopHasNoOrder}
use Rattle.fa_search.specs.declared.finding.Finding.{Finding}
use Rattle.fa_search.specs.declared.finding.Finding.TheVariants as finding
use Rattle.fa_audit.specs.declared.verdict.StartError.{StartError}
use Rattle.fa_audit.specs.Verdict.{IsGivenTree}
use Rattle.fa_audit.specs.Searched.{IsShortestWithout, IsWithoutOrder}
use Rattle.fa_audit.specs.Starts.{IsNoStart}
use Rattle.fa_audit.specs.parts.Answers.{IsTreeRefused}
use Rattle.fa_audit.specs.parts.Protocol.{messages_of}
use Rattle.fa_audit.specs.parts.Searching.{IsFindingIn, known_by, IsKnownOf}
use Rattle.fa_audit.proofs.AuditLemmas.{tree_no_start}
use Rattle.fa_audit.proofs.OneAnswer.{one_given}

-- ---- what a search of them tells

-- messages with one past which no order goes have none
stop_has_no_order : StopHasNoOrder
stop_has_no_order c first at stop = λ order. stop.none order.0 (legal_explains c first order.0 (at + 1) order.1)

-- what is known by what was found
pub known_is : (c : List Message) (first : TreeState) (f : Finding) → IsFindingIn c first f → IsKnownOf c first (known_by f)
known_is c first (finding.Found order placed left) is = (order.items, is.legal)
known_is c first (finding.NoOrder at code) is = stop_has_no_order c first at is.stop
known_is c first (finding.GaveUp at) is = tt

-- ---- between which numbers it lies

-- the next number behind one with an order
pub shortest_is : (capture : Capture) (first : TreeState) (at count : ℕ) → count ≡ at + 1 → count ≤ capture.messages
    → HasOrder (take at (messages_of capture)) first → HasNoOrder (take count (messages_of capture)) first → IsShortestWithout (messages_of capture) first count
shortest_is capture first at count one within before none = record {
  at = at;
  counted = one;
  without = record {
    within = omega (arith, one, within, capture.counted, records_length (records_of capture));
    before = before;
    none = subst (λ (n : ℕ). HasNoOrder (take n (messages_of capture)) first) one none;
  };
}

-- whichever tree is given is that from which they were searched
pub shortest_given : (c : List Message) (tree : Option (List ℕ)) (first : TreeState) (shortest : Option ℕ) → IsGivenTree tree first → IfSome shortest (IsShortestWithout c first)
    → (other : TreeState) → IsGivenTree tree other → IfSome shortest (IsShortestWithout c other)
shortest_given c tree first shortest given is other too =
    subst (λ (t : TreeState). IfSome shortest (IsShortestWithout c t)) (one_given tree first other given too) is

-- ---- of a capture that was read

-- its messages are those of the bytes
messages_are : (bytes : List ℕ) (capture : Capture) (c : List Message) → IsCaptureOf bytes capture → IsGoodCapture bytes c → c ≡ messages_of capture
messages_are bytes capture c is good = (one_reading bytes c (messages_of capture) None capture.fault good.read (records_of capture, refl, is)).0

module _ (capture : Capture) (tree : Option (List ℕ)) (at code : ℕ) (told : Option ℕ) (of : (bytes : List ℕ) → IsCaptureOf bytes capture → IsWithoutOrder bytes tree at code told) where
  -- the message past which no order goes is one of them
  pub stop_within : at < capture.messages
  stop_within =
      elim (cases_lt at capture.messages) [
        | inl within ↦ within
        | inr past ↦ absurd (∥∥₁_elim capture.of_bytes (λ x y. absurd x) (λ some.
            let is = of some.0 some.1 in
            let many = ap length (messages_are some.0 capture is.messages some.1 is.good) in
            omega (arith, past, is.stop.within, many, capture.counted, records_length (records_of capture))))
      ]

  -- and they have no order from the given tree
  pub none_given : (first : TreeState) → IsGivenTree tree first → HasNoOrder (messages_of capture) first
  none_given first given = λ order. ∥∥₁_elim capture.of_bytes (λ x y. absurd x) (λ some.
      let is = of some.0 some.1 in
      let same = messages_are some.0 capture is.messages some.1 is.good in
      let here = subst (λ (t : TreeState). HasNoOrder is.messages t) (one_given tree is.first first is.given given) (stop_has_no_order is.messages is.first at is.stop) in
      here (subst (λ (c : List Message). HasOrder c first) (sym same) order))

  -- what is found of the first ones is told with it
  pub with_shortest : (shortest : Option ℕ) → ((first : TreeState) → IsGivenTree tree first → IfSome shortest (IsShortestWithout (messages_of capture) first))
      → (bytes : List ℕ) → IsCaptureOf bytes capture → IsWithoutOrder bytes tree at code shortest
  with_shortest shortest found bytes is =
      let whole = of bytes is in
      record {
        messages = whole.messages;
        first = whole.first;
        good = whole.good;
        given = whole.given;
        stop = whole.stop;
        least = whole.least;
        alone = subst (λ (c : List Message). IfSome shortest (IsShortestWithout c whole.first)) (sym (messages_are bytes capture whole.messages is whole.good)) (found whole.first whole.given);
      }

  -- a tree text that is refused then
  pub refused_then : (error : StartError) → IsTreeRefused tree error → (bytes : List ℕ) → IsCaptureOf bytes capture → IsNoStart bytes tree error
  refused_then error refused bytes is = let whole = of bytes is in tree_no_start bytes tree whole.messages error whole.good refused
