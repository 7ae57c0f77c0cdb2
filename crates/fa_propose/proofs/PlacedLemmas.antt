-- Proposals: each entry is placed rightly and the entries are a run. So only answered requests that are left out are at fault, and
-- a proposal that leaves none out is legal.
use Rattle.std.proofs.Common.{List, [], ◌∷◌, ◌++◌, length, refl, sym, ap, subst, inl, inr, arith}
use Rattle.std.specs.Prelude.{All}
use Rattle.std.proofs.lemmas.List.{length-append}
use Rattle.std.proofs.lemmas.List.Elements.{All-take}
use Rattle.fa_capture.specs.Message.{Message}
use Rattle.fa_capture.proofs.CallerLemmas.{all_middle}
use Rattle.fa_ledger.specs.Calls.{PlainCall}
use Rattle.fa_tree.specs.State.{TreeState}
use Rattle.fa_order.specs.declared.entry.Entry.{Entry}
use Rattle.fa_check.specs.Runs.{Runs}
use Rattle.fa_check.specs.Faults.{EachPlaced}
use Rattle.fa_check.proofs.CallerLemmas.{placed_valid, run_more, each_more, placed_no_fault}
use Rattle.fa_propose.specs.declared.proposing.TheConstants.{MAX_TRIED}
use Rattle.fa_propose.specs.Proposals.{entry_of, IsCandidate, AreTried, IsProposedSoFar}
use Rattle.fa_propose.specs.Proposals.IsProposedSoFar.{begun, further}
use Rattle.fa_propose.specs.Laws.{ProposalIsPlaced, ProposalOnlyLeavesOut, WholeProposalIsLegal}

-- what is tried may come next
pub tried_is_candidate : (c : List Message) (es : List Entry) (earlier later : List PlainCall) (call : PlainCall) → AreTried c es (earlier ++ call ∷ later) → IsCandidate c es call
tried_is_candidate c es earlier later call tried =
    all_middle (IsCandidate c es) earlier later call
    (subst (All (IsCandidate c es)) (sym tried.front) (All-take (IsCandidate c es) MAX_TRIED tried.candidates tried.are.each))

-- where there is no entry, each is placed rightly
none_misplaced : (c : List Message) → EachPlaced c []
none_misplaced c earlier later e parts = absurd (let long = ap length parts in omega (arith, long, length-append earlier (e ∷ later)))

-- each entry that was proposed so far is placed rightly, and the entries lead from the first tree to the present one
pub proposed_placed : (c : List Message) (start : TreeState) {es : List Entry} {tree : TreeState} → IsProposedSoFar c start es tree → EachPlaced c es × Runs start tree c es
proposed_placed c start begun = (none_misplaced c, refl)
proposed_placed c start (further es tree new call before left next) =
    let so_far : EachPlaced c es × Runs start tree c es = proposed_placed c start before in
    let may : IsCandidate c es call = tried_is_candidate c es next.earlier next.later call next.tried in
    (each_more c es (entry_of call) so_far.0 may.placed_rightly, run_more c start tree new es (entry_of call) so_far.1 next.steps)

-- so it is with a proposal
pub proposal_is_placed : ProposalIsPlaced
proposal_is_placed c first es proposal =
    let whole = proposed_placed c first proposal.proposed in
    (whole.0, (proposal.last, whole.1))

-- where it leaves none out it is legal
pub whole_proposal_is_legal : WholeProposalIsLegal
whole_proposal_is_legal c first es good proposal all =
    let whole = proposed_placed c first proposal.proposed in
    record { good = good; valid = placed_valid c es whole.0 all; last = proposal.last; run = whole.1 }

-- no entry is at fault, so what is at fault is what the entries leave out
pub proposal_only_leaves_out : ProposalOnlyLeavesOut
proposal_only_leaves_out c first es entry at code proposal fault =
    let whole = proposed_placed c first proposal.proposed in
    elim fault [
      | inl placed ↦ absurd (placed_no_fault c first proposal.last es entry at code whole.0 whole.1 placed)
      | inr left ↦ left.told
    ]
