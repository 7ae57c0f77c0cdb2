-- What a search answers, and what is judged by it: from its clauses to each answer, and that the codes have texts.
use Rattle.std.proofs.Common.{◌≡◌, ℕ, List, Option, Result, Ok, Err, IfOk, IfErr, refl}
use Rattle.std.specs.Prelude.{IsSome}
use Rattle.std.specs.declared.alloc.AllocError.{AllocError}
use Rattle.fa_capture.specs.Codes.{text_of}
use Rattle.fa_capture.specs.Message.{Message}
use Rattle.fa_ledger.specs.declared.calls.Calls.{Calls}
use Rattle.fa_tree.specs.State.{TreeState}
use Rattle.fa_order.specs.declared.entry.Entry.{Entry}
use Rattle.fa_order.specs.Order.{IsOrderText}
use Rattle.fa_check.specs.Runs.{IsLegalRun}
use Rattle.fa_check.specs.Verdicts.{AreMessagesOf}
use Rattle.fa_propose.specs.Proposals.{IsProposal}
use Rattle.fa_search.specs.Searches.{IsStop, IsLeastCode, IsExplainedUpTo, AreSerialBefore, IfLegal, IsFound}
use Rattle.fa_search.specs.declared.finding.Finding.{Finding}
use Rattle.fa_search.specs.declared.finding.Finding.TheVariants as finding
use Rattle.fa_audit.specs.declared.found.Searched.{Searched}
use Rattle.fa_audit.specs.declared.found.Searched.TheVariants as found
use Rattle.fa_audit.specs.declared.found.Judgement.{Judgement}
use Rattle.fa_audit.specs.declared.found.Judgement.TheVariants as judged
use Rattle.fa_audit.specs.declared.found.Decision.{Decision}
use Rattle.fa_audit.specs.declared.found.Decision.TheVariants as decided
use Rattle.fa_audit.specs.declared.verdict.StartError.{StartError}
use Rattle.fa_audit.specs.Line.{IsCoded, IsCodedSearch, IsCodedJudgement}
use Rattle.fa_audit.specs.Proposed.{IsStart, answer_of}
use Rattle.fa_audit.specs.Searched.{IsOrderFound, IsLegalOrder, IsWithoutOrder, IsGivenUp, IsSearched, IsDecision, IsJudged, judgement_by, judgement_of}
use Rattle.fa_audit.specs.Starts.{IsStartOf, IsNoStart}
use Rattle.fa_audit.specs.parts.Searching.{IsStopWith, IsGivenUpIn, IsFindingIn, IsDecisionIn}
use Rattle.fa_audit.proofs.CodedLemmas.{step_coded, no_start_coded}

-- ---- from the clauses of the search to what is found

pub finding_in : (calls : Calls) (first : TreeState) (result : Result Finding AllocError) → IfOk result (λ f. (c : List Message) → AreMessagesOf calls c → IfLegal c first f)
    → ((c : List Message) (at code : ℕ) → AreMessagesOf calls c → result ≡ Ok (finding.NoOrder at code) → IsStop c first at)
    → ((c : List Message) (at code : ℕ) → AreMessagesOf calls c → result ≡ Ok (finding.NoOrder at code) → IsLeastCode c first at code)
    → ((c : List Message) (at : ℕ) → AreMessagesOf calls c → result ≡ Ok (finding.GaveUp at) → IsExplainedUpTo c first at)
    → ((c : List Message) (es : List Entry) → AreMessagesOf calls c → IsProposal c first es → IsLegalRun c first es → IfOk result (IsFound es))
    → ((c : List Message) (at : ℕ) → AreMessagesOf calls c → AreSerialBefore c at → result ≡ Ok (finding.GaveUp at) → ⊥)
    → IfOk result (λ f. (c : List Message) → AreMessagesOf calls c → IsFindingIn c first f)
finding_in calls first (Ok (finding.Found order placed left)) legal none least gave_up proposed serial = legal
finding_in calls first (Ok (finding.NoOrder at code)) legal none least gave_up proposed serial =
    λ c are. record { stop = none c at code are refl; least = least c at code are refl; alone = tt }
finding_in calls first (Ok (finding.GaveUp at)) legal none least gave_up proposed serial = λ c are. record {
  explained = gave_up c at are refl;
  overlaps = λ one_by_one. serial c at are one_by_one refl;
  unproposed = λ es proposal is_legal. proposed c es are proposal is_legal;
}
finding_in calls first (Err error) legal none least gave_up proposed serial = tt

-- ---- from what is found to what is answered of the capture and the tree

without_order : (capture : List ℕ) (tree : Option (List ℕ)) (calls : Calls) (first : TreeState) (at code : ℕ) (shortest : Option ℕ)
    → (start : IsStartOf capture tree calls first) → IsStopWith start.messages first at code shortest → IsWithoutOrder capture tree at code shortest
without_order capture tree calls first at code shortest start stop = record {
  messages = start.messages;
  first = first;
  good = start.good;
  given = start.given;
  stop = stop.stop;
  least = stop.least;
  alone = stop.alone;
}

given_up : (capture : List ℕ) (tree : Option (List ℕ)) (calls : Calls) (first : TreeState) (at : ℕ)
    → (start : IsStartOf capture tree calls first) → IsGivenUpIn start.messages first at → IsGivenUp capture tree at
given_up capture tree calls first at start up = record {
  messages = start.messages;
  first = first;
  good = start.good;
  given = start.given;
  explained = up.explained;
  overlaps = up.overlaps;
  unproposed = up.unproposed;
}

pub decision_of : (capture : List ℕ) (tree : Option (List ℕ)) (calls : Calls) (first : TreeState) (decision : Decision)
    → (start : IsStartOf capture tree calls first) → IsDecisionIn start.messages first decision → IsDecision capture tree decision
decision_of capture tree calls first (decided.Legal order messages placed left) start is = record {
  messages = start.messages;
  first = first;
  good = start.good;
  given = start.given;
  legal = is;
}
decision_of capture tree calls first (decided.NoOrder at code shortest) start is = without_order capture tree calls first at code shortest start is
decision_of capture tree calls first (decided.GaveUp at) start is = given_up capture tree calls first at start is

-- ---- from what is decided to what a search answers, and to what is judged

-- the text of an order that is legal is one that is found
pub order_is_found : (capture : List ℕ) (tree : Option (List ℕ)) (order : List Entry) (text : List ℕ) (count placed left : ℕ)
    → IsLegalOrder capture tree order count placed left → IsOrderText text order → IsOrderFound capture tree text
order_is_found capture tree order text count placed left is spelled = record {
  messages = is.messages;
  first = is.first;
  entries = order;
  good = is.good;
  given = is.given;
  legal = is.legal.legal;
  spelled = spelled;
}

pub judged_by : (capture : List ℕ) (tree : Option (List ℕ)) (decision : Decision) → IsDecision capture tree decision → IsJudged capture tree (judgement_by decision)
judged_by capture tree (decided.Legal order messages placed left) is = record {
  messages = is.messages;
  first = is.first;
  entries = order.items;
  good = is.good;
  given = is.given;
  legal = is.legal;
}
judged_by capture tree (decided.NoOrder at code shortest) is = is
judged_by capture tree (decided.GaveUp at) is = is

pub if_judged : (capture : List ℕ) (tree : Option (List ℕ)) (result : Result Decision StartError)
    → IfOk result (IsDecision capture tree) → IfOk (judgement_of result) (IsJudged capture tree)
if_judged capture tree (Ok decision) is = judged_by capture tree decision is
if_judged capture tree (Err error) is = tt

-- why there is no decision there is no judgement
pub if_unjudged : (P : StartError → Type 0) (result : Result Decision StartError) → IfErr result P → IfErr (judgement_of result) P
if_unjudged P (Ok decision) none = tt
if_unjudged P (Err error) none = none

-- an answer has a start
pub searched_start : (capture : List ℕ) (tree : Option (List ℕ)) (searched : Searched) → IsSearched capture tree searched → IsStart capture tree
searched_start capture tree (found.Order text) is = record { messages = is.messages; first = is.first; good = is.good; given = is.given }
searched_start capture tree (found.NoOrder at code shortest) is = record { messages = is.messages; first = is.first; good = is.good; given = is.given }
searched_start capture tree (found.GaveUp at) is = record { messages = is.messages; first = is.first; good = is.good; given = is.given }

pub judged_start : (capture : List ℕ) (tree : Option (List ℕ)) (judgement : Judgement) → IsJudged capture tree judgement → IsStart capture tree
judged_start capture tree (judged.Legal messages placed left) is = record { messages = is.messages; first = is.first; good = is.good; given = is.given }
judged_start capture tree (judged.NoOrder at code shortest) is = record { messages = is.messages; first = is.first; good = is.good; given = is.given }
judged_start capture tree (judged.GaveUp at) is = record { messages = is.messages; first = is.first; good = is.good; given = is.given }

-- ---- the codes

without_order_coded : (capture : List ℕ) (tree : Option (List ℕ)) (at code : ℕ) (shortest : Option ℕ) → IsWithoutOrder capture tree at code shortest → IsSome (text_of code)
without_order_coded capture tree at code shortest is =
    let refused = is.least.refused in
    step_coded refused.1 is.messages _ code refused.4

pub searched_coded : (capture : List ℕ) (tree : Option (List ℕ)) (searched : Searched) → IsSearched capture tree searched → IsCodedSearch searched
searched_coded capture tree (found.Order text) is = tt
searched_coded capture tree (found.NoOrder at code shortest) is = without_order_coded capture tree at code shortest is
searched_coded capture tree (found.GaveUp at) is = tt

judged_coded : (capture : List ℕ) (tree : Option (List ℕ)) (judgement : Judgement) → IsJudged capture tree judgement → IsCodedJudgement judgement
judged_coded capture tree (judged.Legal messages placed left) is = tt
judged_coded capture tree (judged.NoOrder at code shortest) is = without_order_coded capture tree at code shortest is
judged_coded capture tree (judged.GaveUp at) is = tt

-- so have those of what is decided
pub decision_coded : (capture : List ℕ) (tree : Option (List ℕ)) (result : Result Decision StartError)
    → IfOk result (IsDecision capture tree) → IfOk (judgement_of result) IsCodedJudgement
decision_coded capture tree (Ok decision) is = judged_coded capture tree (judgement_by decision) (judged_by capture tree decision is)
decision_coded capture tree (Err error) is = tt

-- and those of why nothing is
pub no_decision_coded : (capture : List ℕ) (tree : Option (List ℕ)) (result : Result Decision StartError)
    → IfErr result (IsNoStart capture tree) → IfErr (judgement_of result) (λ error. IfOk (answer_of error) IsCoded)
no_decision_coded capture tree (Ok decision) none = tt
no_decision_coded capture tree (Err error) none = no_start_coded capture tree error none
