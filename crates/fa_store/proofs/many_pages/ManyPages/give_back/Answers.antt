use Rattle.std.proofs.Common.{◌≡◌, [], get_or, length, refl, sym, ap, ◌∙◌}
use Rattle.fa_store.specs.parts.PageParts.{PagesShown}
use Rattle.fa_store.proofs.PageLemmas.{parts_same}
use Rattle.fa_store.proofs.many_pages.ManyPages.give_back.Goals as goal

pub returns : goal.returns
returns c = λ k at.
    let before : PagesShown = record { near = c.self.inside.near.items; far = c.self.inside.far } in
    let without_zeros : PagesShown = record { near = c.give_back_from.new.pages.items; far = c.self.inside.far } in
    let shorter : PagesShown = record { near = c.shorten.new.near.items; far = c.self.inside.far } in
    let now : PagesShown = record { near = c.shrink_to_fit.new.self.items; far = c.give_back.new.self } in
    let shrunk : now.near ≡ shorter.near = c.shrink_to_fit.ensures.items in
    rw (sym c.self.view_is)
    (parts_same now shorter (ap length shrunk) (λ k at. ap (λ l. get_or (get_or l k []) at 0) shrunk) c.give_back.ensures k at
    ∙ (c.shorten.ensures k at
    ∙ parts_same without_zeros before c.give_back_from.ensures.as_many c.give_back_from.ensures.same (λ k at. refl) k at))
