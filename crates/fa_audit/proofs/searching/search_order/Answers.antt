use Rattle.std.proofs.lemmas.Result.{IfErr-weaker, IfOk-weaker}
use Rattle.fa_audit.proofs.CodedLemmas.{no_start_coded}
use Rattle.fa_audit.proofs.OneProposal.{start_answered, exactly_fault, exactly_tree_fault}
use Rattle.fa_audit.proofs.SearchLemmas.{searched_start, searched_coded}
use Rattle.fa_audit.proofs.searching.search_order.Goals as goal

pub returns-clause-answer : goal.returns-clause-answer
returns-clause-answer c = IfOk-weaker c.searched.result _ _ (λ answer of. of c.args.capture.now c.read_capture.ensures) c.searched.ensures.answer

pub returns-clause-start : goal.returns-clause-start
returns-clause-start c =
    start_answered c.args.capture.now _ c.searched.result
    (IfErr-weaker c.searched.result _ _ (λ error of. of c.args.capture.now c.read_capture.ensures) c.searched.ensures.none)

pub returns-clause-fault : goal.returns-clause-fault
returns-clause-fault c = λ at code.
    exactly_fault c.args.capture.now _ c.searched.result at code
    (IfOk-weaker c.searched.result _ _ (λ answer of. searched_start c.args.capture.now _ answer (of c.args.capture.now c.read_capture.ensures)) c.searched.ensures.answer)
    (IfErr-weaker c.searched.result _ _ (λ error of. of c.args.capture.now c.read_capture.ensures) c.searched.ensures.none)

pub returns-clause-tree_text : goal.returns-clause-tree_text
returns-clause-tree_text c = λ line.
    exactly_tree_fault c.args.capture.now _ c.searched.result line
    (IfOk-weaker c.searched.result _ _ (λ answer of. searched_start c.args.capture.now _ answer (of c.args.capture.now c.read_capture.ensures)) c.searched.ensures.answer)
    (IfErr-weaker c.searched.result _ _ (λ error of. of c.args.capture.now c.read_capture.ensures) c.searched.ensures.none)

pub returns-clause-codes : goal.returns-clause-codes
returns-clause-codes c =
    IfOk-weaker c.searched.result _ _ (λ answer of. searched_coded c.args.capture.now _ answer (of c.args.capture.now c.read_capture.ensures)) c.searched.ensures.answer

pub returns-clause-fault_codes : goal.returns-clause-fault_codes
returns-clause-fault_codes c =
    IfErr-weaker c.searched.result _ _ (λ error of. no_start_coded c.args.capture.now _ error (of c.args.capture.now c.read_capture.ensures)) c.searched.ensures.none
