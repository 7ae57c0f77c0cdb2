use Rattle.std.proofs.Common.{rules, Some, refl}
use Rattle.fa_reasons.proofs.PageLemmas.{page_from}
use Rattle.fa_reasons.proofs.order_pages.page_on_tree.Goals as goal

pub returns-clause-told : goal.returns-clause-told
returns-clause-told g c =
    page_from c.tell_page.result _ _ _ _ _ _ c.in_ok-capture.capture.items (Some c.in_ok-tree.tree.items) c.in_ok-order.order.items
    (record { whole = c.in_ok-capture.ensures.bytes; within = (search rules) })
    (c.in_ok-tree.tree.items, refl, record { whole = c.in_ok-tree.ensures.bytes; within = (search rules) })
    (record { whole = c.in_ok-order.ensures.bytes; within = (search rules) })
    (rw (← c.deref.ensures.value, ← c.deref-2.ensures.value, ← c.deref-3.ensures.value) c.tell_page.ensures.told)
