-- What a proposal answers is one: by the audit's lemmas on captures and tree texts.
use Rattle.std.proofs.Common.{◌≡◌, ℕ, ◌⊎◌, List, Option, Result, Ok, Err, IsErrOf, refl, sym, ap, subst, ◌∙◌, inl, inr}
use Rattle.std.specs.Prelude.{IfErr, OnOk, IsOk}
use Rattle.fa_capture.specs.Message.{Message}
use Rattle.fa_capture.proofs.CallerLemmas.{one_reading}
use Rattle.fa_ledger.specs.Passing.{IsFirstFault}
use Rattle.fa_tree.specs.State.{TreeState}
use Rattle.fa_order.specs.declared.entry.Entry.{Entry}
use Rattle.fa_order.specs.Order.{order_text}
use Rattle.fa_propose.specs.Proposals.{IsProposal}
use Rattle.fa_propose.specs.Laws.{ProposalIsOne}
use Rattle.fa_audit.specs.declared.verdict.StartError.{StartError}
use Rattle.fa_audit.specs.declared.verdict.StartError.TheVariants.{Fault, TreeText, Memory}
use Rattle.fa_audit.specs.Verdict.{IsTreeTextAtFault, ExactlyRefused}
use Rattle.fa_audit.specs.Proposed.{IsStart, IsProposed}
use Rattle.fa_audit.specs.Laws.{OneProposalAnswer}
use Rattle.fa_audit.specs.Starts.{IsNoStart}
use Rattle.fa_audit.proofs.OneAnswer.{one_first_fault, good_no_fault, one_good_capture, one_given, given_no_fault, tree_fault_same}

-- ---- a start and its faults exclude one another

-- where there is a start, the capture has no fault
pub start_no_fault : (capture : List ℕ) (tree : Option (List ℕ)) (at code : ℕ) → IsStart capture tree → IsFirstFault capture at code → ⊥
start_no_fault capture tree at code start fault = good_no_fault one_reading capture start.messages at code start.good fault

-- nor has the tree text
pub start_no_tree_fault : (capture : List ℕ) (tree : Option (List ℕ)) (line : ℕ) → IsStart capture tree → IsTreeTextAtFault capture tree line → ⊥
start_no_tree_fault capture tree line start fault = given_no_fault tree start.first capture line start.given fault

-- an order that is proposed has a start
pub proposed_start : (capture : List ℕ) (tree : Option (List ℕ)) (text : List ℕ) → IsProposed capture tree text → IsStart capture tree
proposed_start capture tree text p = record { messages = p.messages; first = p.first; good = p.good; given = p.given }

-- ---- what the call answers

module _ {T : Type 0} (capture : List ℕ) (tree : Option (List ℕ)) where
  -- where there is a start, there is an order, or memory was refused
  pub start_answered : (result : Result T StartError) → IfErr result (IsNoStart capture tree) → IsStart capture tree → IsOk result ⊎ IsErrOf result Memory
  start_answered (Ok text) none start = inl refl
  start_answered (Err (Fault at code)) none start = absurd (start_no_fault capture tree at code start none)
  start_answered (Err (TreeText line)) none start = absurd (start_no_tree_fault capture tree line start none)
  start_answered (Err Memory) none start = inr refl

  -- a fault of the capture is answered exactly where it is there
  pub exactly_fault : (result : Result T StartError) (at code : ℕ) → OnOk result (IsStart capture tree) → IfErr result (IsNoStart capture tree)
      → ExactlyRefused result Memory (Fault at code) (IsFirstFault capture at code)
  exactly_fault (Ok text) at code start none = record {
    only = λ same. absurd cc;
    always = λ fault. absurd (start_no_fault capture tree at code start fault);
  }
  exactly_fault (Err (Fault place told)) at code start none = record {
    only = λ same. let told_is : Fault place told ≡ Fault at code = cc in subst (IsNoStart capture tree) told_is none;
    always = λ fault.
        let same : (place ≡ at) × (told ≡ code) = one_first_fault one_reading capture place told at code none fault in
        let first : place ≡ at = same.0 in
        let second : told ≡ code = same.1 in
        inl cc;
  }
  exactly_fault (Err (TreeText line)) at code start none = record {
    only = λ same. absurd cc;
    always = λ fault. absurd (good_no_fault one_reading capture none.messages at code none.good fault);
  }
  exactly_fault (Err Memory) at code start none = record {
    only = λ same. absurd cc;
    always = λ fault. inr refl;
  }

  -- so is a fault of the tree text
  pub exactly_tree_fault : (result : Result T StartError) (line : ℕ) → OnOk result (IsStart capture tree) → IfErr result (IsNoStart capture tree)
      → ExactlyRefused result Memory (TreeText line) (IsTreeTextAtFault capture tree line)
  exactly_tree_fault (Ok text) line start none = record {
    only = λ same. absurd cc;
    always = λ fault. absurd (start_no_tree_fault capture tree line start fault);
  }
  exactly_tree_fault (Err (Fault place told)) line start none = record {
    only = λ same. absurd cc;
    always = λ fault. absurd (good_no_fault one_reading capture fault.messages place told fault.good none);
  }
  exactly_tree_fault (Err (TreeText other)) line start none = record {
    only = λ same. let told_is : TreeText other ≡ TreeText line = cc in subst (IsNoStart capture tree) told_is none;
    always = λ fault. let same : other ≡ line = tree_fault_same capture tree other line none fault in inl cc;
  }
  exactly_tree_fault (Err Memory) line start none = record {
    only = λ same. absurd cc;
    always = λ fault. inr refl;
  }

-- ---- one answer

-- the text of an order that is proposed is one, since the proposal is
one_proposed : ProposalIsOne → (capture : List ℕ) (tree : Option (List ℕ)) (text other : List ℕ) → IsProposed capture tree text → IsProposed capture tree other → text ≡ other
one_proposed one capture tree text other x y =
    let messages : x.messages ≡ y.messages = one_good_capture one_reading capture x.messages y.messages x.good y.good in
    let first : x.first ≡ y.first = one_given tree x.first y.first x.given y.given in
    let moved : IsProposal y.messages y.first x.entries =
    subst (λ (t : TreeState). IsProposal y.messages t x.entries) first (subst (λ (c : List Message). IsProposal c x.first x.entries) messages x.proposal) in
    let entries : x.entries ≡ y.entries = one y.messages y.first x.entries y.entries moved y.proposal in
    x.spelled.spelled ∙ ap (λ (es : List Entry). order_text es) entries ∙ sym y.spelled.spelled

pub one_proposal_answer : ProposalIsOne → OneProposalAnswer
one_proposal_answer one capture tree (Ok text) (Ok other) a b = ap (λ (t : List ℕ). Ok t) (one_proposed one capture tree text other a b)
one_proposal_answer one capture tree (Ok text) (Err (Fault at code)) a b = absurd (start_no_fault capture tree at code (proposed_start capture tree text a) b)
one_proposal_answer one capture tree (Ok text) (Err (TreeText line)) a b = absurd (start_no_tree_fault capture tree line (proposed_start capture tree text a) b)
one_proposal_answer one capture tree (Err (Fault at code)) (Ok text) a b = absurd (start_no_fault capture tree at code (proposed_start capture tree text b) a)
one_proposal_answer one capture tree (Err (Fault at code)) (Err (Fault place told)) a b =
    let same : (at ≡ place) × (code ≡ told) = one_first_fault one_reading capture at code place told a b in
    let first : at ≡ place = same.0 in
    let second : code ≡ told = same.1 in
    cc
one_proposal_answer one capture tree (Err (Fault at code)) (Err (TreeText line)) a b = absurd (good_no_fault one_reading capture b.messages at code b.good a)
one_proposal_answer one capture tree (Err (TreeText line)) (Ok text) a b = absurd (start_no_tree_fault capture tree line (proposed_start capture tree text b) a)
one_proposal_answer one capture tree (Err (TreeText line)) (Err (Fault at code)) a b = absurd (good_no_fault one_reading capture a.messages at code a.good b)
one_proposal_answer one capture tree (Err (TreeText line)) (Err (TreeText other)) a b =
    ap (λ (n : ℕ). Err (TreeText n)) (tree_fault_same capture tree line other a b)
one_proposal_answer one capture tree (Err Memory) b a _ = absurd a
one_proposal_answer one capture tree a (Err Memory) _ b = absurd b
