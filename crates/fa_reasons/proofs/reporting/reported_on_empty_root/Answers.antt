use Rattle.std.proofs.Common.{rules, None, refl}
use Rattle.fa_reasons.proofs.PageLemmas.{report_from}
use Rattle.fa_reasons.proofs.reporting.reported_on_empty_root.Goals as goal

pub returns-clause-told : goal.returns-clause-told
returns-clause-told g c =
    report_from c.tell_report.result _ _ _ _ c.in_ok-capture.capture.items None
    (record { whole = c.in_ok-capture.ensures.bytes; within = (search rules) })
    refl
    (rw (← c.deref.ensures.value) c.tell_report.ensures.told)
