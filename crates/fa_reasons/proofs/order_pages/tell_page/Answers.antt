use Rattle.fa_reasons.proofs.PageLemmas.{page_told, page_of}
use Rattle.fa_reasons.proofs.order_pages.tell_page.Goals as goal

pub returns-clause-told : goal.returns-clause-told
returns-clause-told g c =
    page_of c.tell_text.result _ _ _ _ _ _ c.in_ok-explanation.explanation.answer c.in_ok-explanation.ensures.answer
    (page_told c.tell_text.result _ _ _ _ _ _ c.in-Ok.is c.status.ensures c.tell_text.ensures.told)
