use Rattle.std.proofs.Common.{length, inl, inr, refl, sym, ◌∙◌}
use Rattle.std.proofs.lemmas.Bool.{cases_lt}
use Rattle.fa_store.specs.parts.PageParts.{PagesShown}
use Rattle.fa_store.proofs.PageLemmas.{page_far, near_kept}
use Rattle.fa_store.proofs.many_pages.ManyPages.cut_far.Goals as goal

pub returns-clause-cut : goal.returns-clause-cut
returns-clause-cut c k far from =
    let now : PagesShown = record { near = c.self.inside.near.items; far = c.cut_from.new.self } in
    page_far now k far ∙ c.cut_from.ensures.cut k from

pub returns-clause-kept : goal.returns-clause-kept
returns-clause-kept c k front =
    let before : PagesShown = record { near = c.self.inside.near.items; far = c.self.inside.far } in
    let now : PagesShown = record { near = c.self.inside.near.items; far = c.cut_from.new.self } in
    rw (sym c.self.view_is) (elim (cases_lt k (length c.self.inside.near.items)) [
      | inl near ↦ near_kept now before refl k near
      | inr far ↦ page_far now k far ∙ (c.cut_from.ensures.kept k front ∙ sym (page_far before k far))
    ])
