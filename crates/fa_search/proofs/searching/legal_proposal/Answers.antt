use Rattle.std.proofs.Common.{◌≡◌, sym, subst}
use Rattle.std.proofs.lemmas.Option.{IfSome_then}
use Rattle.std.proofs.lemmas.Result.{IfOk-weaker}
use Rattle.fa_tree.specs.State.{TreeState}
use Rattle.fa_check.specs.Runs.{IsLegalRun}
use Rattle.fa_propose.specs.Proposals.{IsProposal}
use Rattle.fa_propose.proofs.CallerLemmas.{proposal_is_one}
use Rattle.fa_search.proofs.SearchLemmas.{found_where_legal}
use Rattle.fa_search.proofs.searching.legal_proposal.Goals as goal

pub returns-clause-legal : goal.returns-clause-legal
returns-clause-legal c =
    rw c.in_ok-copy-2.ensures at c.found_by.ensures.legal

pub returns-clause-order : goal.returns-clause-order
returns-clause-order c =
    IfOk-weaker c.found_by.result _ _ (λ found is. IfSome_then found is (λ finding order. (c.in_ok-proposal.proposal.items, order))) c.found_by.ensures.order

pub returns-clause-proposed : goal.returns-clause-proposed
returns-clause-proposed c = λ m es are is run.
    let proposal = c.in_ok-proposal.proposal.items in
    let same : proposal ≡ es =
    proposal_is_one m c.args.tree.now proposal es (subst (λ (t : TreeState). IsProposal m t proposal) c.in_ok-copy.ensures (c.in_ok-proposal.ensures m are)) is in
    found_where_legal c.found_by.result proposal es same c.found_by.ensures.order
    (IfOk-weaker c.found_by.result _ _
    (λ found not none. not none m are (subst (λ (t : TreeState). IsLegalRun m t proposal) (sym c.in_ok-copy-2.ensures) (subst (IsLegalRun m c.args.tree.now) (sym same) run)))
    c.found_by.ensures.none)
