use Rattle.std.proofs.Common.{rules, Some, refl}
use Rattle.fa_reasons.proofs.PageLemmas.{report_from}
use Rattle.fa_reasons.proofs.reporting.reported_on_tree.Goals as goal

pub returns-clause-told : goal.returns-clause-told
returns-clause-told g c =
    report_from c.tell_report.result _ _ _ _ c.in_ok-capture.capture.items (Some c.in_ok-tree.tree.items)
    (record { whole = c.in_ok-capture.ensures.bytes; within = (search rules) })
    (c.in_ok-tree.tree.items, refl, record { whole = c.in_ok-tree.ensures.bytes; within = (search rules) })
    (rw (← c.deref.ensures.value, ← c.deref-2.ensures.value) c.tell_report.ensures.told)
