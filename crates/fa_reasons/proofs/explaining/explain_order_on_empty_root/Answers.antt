use Rattle.std.proofs.Common.{rules, Some, None, refl}
use Rattle.fa_reasons.proofs.ExplainedLemmas.{explained_from}
use Rattle.fa_reasons.proofs.explaining.explain_order_on_empty_root.Goals as goal

pub returns-clause-told : goal.returns-clause-told
returns-clause-told g c =
    explained_from c.tell_explanation.result _ _ _ _ _ c.in_ok-capture.capture.items None (Some c.in_ok-order.order.items) c.in_ok-explanation.explanation.answer
    (record { whole = c.in_ok-capture.ensures.bytes; within = (search rules) })
    refl
    (c.in_ok-order.order.items, refl, record { whole = c.in_ok-order.ensures.bytes; within = (search rules) })
    (rw (← c.deref.ensures.value, ← c.deref-2.ensures.value) c.in_ok-explanation.ensures.answer) c.tell_explanation.ensures.told
