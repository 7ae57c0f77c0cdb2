use Rattle.std.proofs.Common.{rules, None, refl}
use Rattle.fa_reasons.proofs.ExplainedLemmas.{judgement_explained_from}
use Rattle.fa_reasons.proofs.explaining_judgement.explained_on_empty_root.Goals as goal

pub returns-clause-told : goal.returns-clause-told
returns-clause-told g c =
    judgement_explained_from c.tell_explained.result _ _ _ _ c.in_ok-capture.capture.items None c.in_ok-explained.explained.decision
    (record { whole = c.in_ok-capture.ensures.bytes; within = (search rules) })
    refl
    (rw (← c.deref.ensures.value) c.in_ok-explained.ensures.answer) c.tell_explained.ensures.told
