use Rattle.std.proofs.lemmas.Result.{IfErr-weaker, IfOk-weaker}
use Rattle.fa_audit.proofs.CutOrderLemmas.{cut_cuttable, cuttable_answered, exactly_no_capture, exactly_no_order, no_cut_coded}
use Rattle.fa_audit.proofs.cutting.cut_order.Goals as goal

pub returns-clause-left : goal.returns-clause-left
returns-clause-left c = IfOk-weaker c.left_of.result _ _ (λ text of. of c.args.capture.now c.read_capture.ensures) c.left_of.ensures.text

pub returns-clause-cuttable : goal.returns-clause-cuttable
returns-clause-cuttable c =
    cuttable_answered c.args.capture.now c.args.order.now c.left_of.result
    (IfErr-weaker c.left_of.result _ _ (λ error of. of c.args.capture.now c.read_capture.ensures) c.left_of.ensures.none)

pub returns-clause-fault : goal.returns-clause-fault
returns-clause-fault c = λ at code.
    exactly_no_capture c.args.capture.now c.args.order.now c.left_of.result at code
    (IfOk-weaker c.left_of.result _ _ (λ text of. cut_cuttable c.args.capture.now c.args.order.now c.args.messages text.items (of c.args.capture.now c.read_capture.ensures)) c.left_of.ensures.text)
    (IfErr-weaker c.left_of.result _ _ (λ error of. of c.args.capture.now c.read_capture.ensures) c.left_of.ensures.none)

pub returns-clause-order_text : goal.returns-clause-order_text
returns-clause-order_text c = λ line.
    exactly_no_order c.args.capture.now c.args.order.now c.left_of.result line
    (IfOk-weaker c.left_of.result _ _ (λ text of. cut_cuttable c.args.capture.now c.args.order.now c.args.messages text.items (of c.args.capture.now c.read_capture.ensures)) c.left_of.ensures.text)
    (IfErr-weaker c.left_of.result _ _ (λ error of. of c.args.capture.now c.read_capture.ensures) c.left_of.ensures.none)

pub returns-clause-codes : goal.returns-clause-codes
returns-clause-codes c =
    IfErr-weaker c.left_of.result _ _ (λ error of. no_cut_coded c.args.capture.now c.args.order.now error (of c.args.capture.now c.read_capture.ensures)) c.left_of.ensures.none
