use Rattle.std.proofs.Common.{rules, Some, None, refl}
use Rattle.fa_reasons.proofs.ExplainedLemmas.{explained_from}
use Rattle.fa_reasons.proofs.explaining.explain_proposal_on_tree.Goals as goal

pub returns-clause-told : goal.returns-clause-told
returns-clause-told g c =
    explained_from c.tell_explanation.result _ _ _ _ _ c.in_ok-capture.capture.items (Some c.in_ok-tree.tree.items) None c.in_ok-explanation.explanation.answer
    (record { whole = c.in_ok-capture.ensures.bytes; within = (search rules) })
    (c.in_ok-tree.tree.items, refl, record { whole = c.in_ok-tree.ensures.bytes; within = (search rules) })
    refl
    (rw (← c.deref.ensures.value, ← c.deref-2.ensures.value) c.in_ok-explanation.ensures.answer) c.tell_explanation.ensures.told
