use Rattle.std.proofs.lemmas.Result.{IfErr-weaker, IfOk-weaker}
use Rattle.fa_audit.proofs.CodedLemmas.{no_start_coded}
use Rattle.fa_audit.proofs.OneProposal.{proposed_start, start_answered, exactly_fault, exactly_tree_fault}
use Rattle.fa_audit.proofs.proposing.proposal.Goals as goal

pub returns-clause-start : goal.returns-clause-start
returns-clause-start c = start_answered c.args.capture.now _ c.proposed_of_bytes.result c.proposed_of_bytes.ensures.none

pub returns-clause-fault : goal.returns-clause-fault
returns-clause-fault c = λ at code.
    exactly_fault c.args.capture.now _ c.proposed_of_bytes.result at code
    (IfOk-weaker c.proposed_of_bytes.result _ _ (λ text of. proposed_start c.args.capture.now _ text.items of) c.proposed_of_bytes.ensures.text) c.proposed_of_bytes.ensures.none

pub returns-clause-tree_text : goal.returns-clause-tree_text
returns-clause-tree_text c = λ line.
    exactly_tree_fault c.args.capture.now _ c.proposed_of_bytes.result line
    (IfOk-weaker c.proposed_of_bytes.result _ _ (λ text of. proposed_start c.args.capture.now _ text.items of) c.proposed_of_bytes.ensures.text) c.proposed_of_bytes.ensures.none

pub returns-clause-codes : goal.returns-clause-codes
returns-clause-codes c = IfErr-weaker c.proposed_of_bytes.result _ _ (λ error of. no_start_coded c.args.capture.now _ error of) c.proposed_of_bytes.ensures.none
