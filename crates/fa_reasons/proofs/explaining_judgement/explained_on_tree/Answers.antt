use Rattle.std.proofs.Common.{rules, Some, refl}
use Rattle.fa_reasons.proofs.ExplainedLemmas.{judgement_explained_from}
use Rattle.fa_reasons.proofs.explaining_judgement.explained_on_tree.Goals as goal

pub returns-clause-told : goal.returns-clause-told
returns-clause-told g c =
    judgement_explained_from c.tell_explained.result _ _ _ _ c.in_ok-capture.capture.items (Some c.in_ok-tree.tree.items) c.in_ok-explained.explained.decision
    (record { whole = c.in_ok-capture.ensures.bytes; within = (search rules) })
    (c.in_ok-tree.tree.items, refl, record { whole = c.in_ok-tree.ensures.bytes; within = (search rules) })
    (rw (← c.deref.ensures.value, ← c.deref-2.ensures.value) c.in_ok-explained.ensures.answer) c.tell_explained.ensures.told
