use Rattle.std.proofs.Common.{sym, ◌∙◌}
use Rattle.fa_audit.proofs.CallerLemmas.{judge_answer}
use Rattle.fa_reasons.proofs.PageLemmas.{judged_told, report_of}
use Rattle.fa_reasons.proofs.reporting.tell_report.Goals as goal

pub returns-in-Ok-clause-told : goal.returns-in-Ok-clause-told
returns-in-Ok-clause-told g c =
    report_of c.tell_judged.result _ _ _ _ _ _ (sym c.judgement_of.ensures ∙ c.in-Ok.is) (judge_answer _ _ _ c.in_ok-explained.ensures.answer) (judged_told c.tell_judged.result _ _ _ c.tell_judged.ensures.told)

pub returns-clause-told : goal.returns-clause-told
returns-clause-told g c =
    report_of c.tell_no_start.result _ _ _ _ _ _ (sym c.judgement_of.ensures ∙ c.in-Err.is) (judge_answer _ _ _ c.in_ok-explained.ensures.answer) c.tell_no_start.ensures.told
