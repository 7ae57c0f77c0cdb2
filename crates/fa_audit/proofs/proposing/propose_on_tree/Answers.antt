use Rattle.std.proofs.Common.{rules, Some, refl}
use Rattle.std.proofs.lemmas.Result.{IfErr-weaker, IfOk-weaker}
use Rattle.fa_audit.proofs.CodedLemmas.{no_start_coded}
use Rattle.fa_audit.proofs.ProposalLemmas.{answered_or_memory, proposed_from}
use Rattle.fa_audit.proofs.StoredLemmas.{bytes_stored}
use Rattle.fa_audit.proofs.proposing.propose_on_tree.Goals as goal

pub tell_proposal-requires-clause-coded : goal.tell_proposal-requires-clause-coded
tell_proposal-requires-clause-coded g c =
    IfErr-weaker c.proposed.result _ _ (λ error of. no_start_coded c.in_ok-stored.stored _ error (of c.in_ok-stored.stored (c.with_seed.ensures.same c.in_ok-stored.stored c.capture.ensures))) c.proposed.ensures.none

pub returns-clause-told : goal.returns-clause-told
returns-clause-told g c =
    let read = bytes_stored _ _ c.with_seed.result c.in_ok-stored.ensures.capture (c.with_seed.ensures.same c.in_ok-stored.stored c.capture.ensures) in
    proposed_from c.tell_proposal.result _ _ _ _ read.0 (Some c.in_ok-tree.tree.items) c.proposed.result read.1
    (c.in_ok-tree.tree.items, refl, record { whole = c.in_ok-tree.ensures.bytes; within = (search rules) })
    (rw (← c.deref.ensures.value)
    (answered_or_memory _ _ c.proposed.result (IfOk-weaker c.proposed.result _ _ (λ text of. of read.0 read.2) c.proposed.ensures.text)
    (IfErr-weaker c.proposed.result _ _ (λ error of. of read.0 read.2) c.proposed.ensures.none)))
    c.tell_proposal.ensures.told c.tell_proposal.ensures.answered
