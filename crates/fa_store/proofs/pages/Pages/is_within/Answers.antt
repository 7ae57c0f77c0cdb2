use Rattle.std.proofs.Common.{◌≡◌, ℕ, List, [], get_or, sym, ap, subst, ◌∙◌}
use Rattle.fa_store.specs.parts.PageParts.{PagesShown, only_page, page_of, far_page, IsPart}
use Rattle.fa_store.specs.parts.PagesView.{pages_shown}
use Rattle.fa_store.proofs.PageLemmas.{one_within, many_within}
use Rattle.fa_store.proofs.pages.Pages.is_within.Goals as goal

pub returns-in-One : goal.returns-in-One
returns-in-One c = λ is place.
    let other = page_of c.args.other.now in
    let page : List ℕ = c.in-One.page in
    let shown : only_page page ≡ c.args.self.now = sym (ap pages_shown c.in-One.is) ∙ c.self.view_is in
    subst (λ pages. IsPart (other place) 0 (page_of pages place)) shown
    (one_within page other (subst (IsPart (other 0) 0) c.as_slice.ensures (c.has.ensures.0 is)) place)

pub returns-then-is_near_within : goal.returns-then-is_near_within
returns-then-is_near_within c = λ is place.
    let other = page_of c.args.other.now in
    let pages : PagesShown = c.in-Many.pages.value in
    let shown : pages ≡ c.args.self.now = sym (ap pages_shown c.in-Many.is) ∙ c.self.view_is in
    subst (λ pages. IsPart (other place) 0 (page_of pages place)) shown
    (many_within pages other
    (λ place.
    subst (λ near. IsPart (other place) 0 (get_or near place [])) (c.near.ensures ∙ ap (λ p. p.near) c.deref.ensures)
    (c.is_near_within.ensures c.if-is_near_within.true place))
    (λ place.
    subst (λ far. IsPart (other place) 0 (far_page far place)) (c.by_place.ensures ∙ c.far.ensures ∙ ap (λ p. p.far) c.deref-then-is_near_within.ensures)
    (c.is_far_within.ensures is place))
    place)
