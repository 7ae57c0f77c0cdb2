use Rattle.std.proofs.Common.{rules, None, refl}
use Rattle.fa_reasons.proofs.ExplainedLemmas.{judgement_kept_from, explained_lines_stand_from}
use Rattle.fa_reasons.proofs.explaining_judgement.keep_on_empty_root.Goals as goal

pub returns-clause-told : goal.returns-clause-told
returns-clause-told g c =
    judgement_kept_from c.tell_and_keep.result _ _ _ _ _ _ c.in_ok-capture.capture.items None c.in_ok-explained.explained.decision
    (record { whole = c.in_ok-capture.ensures.bytes; within = (search rules) })
    refl
    (rw (← c.deref.ensures.value) c.in_ok-explained.ensures.answer) c.tell_and_keep.ensures.told c.tell_and_keep.ensures.kept

pub returns-clause-lines_stand : goal.returns-clause-lines_stand
returns-clause-lines_stand g c = λ broken.
    explained_lines_stand_from _ _ _ _ c.in_ok-capture.capture.items None c.in_ok-explained.explained.decision
    (record { whole = c.in_ok-capture.ensures.bytes; within = (search rules) })
    refl
    (rw (← c.deref.ensures.value) c.in_ok-explained.ensures.answer) (c.tell_and_keep.ensures.lines_stand broken)
