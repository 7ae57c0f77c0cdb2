use Rattle.std.proofs.Common.{◌≡◌, get_or, sym, ap, ◌∙◌, rules}
use Rattle.fa_store.specs.parts.PageParts.{only_page, page_of}
use Rattle.fa_store.proofs.PageLemmas.{only_here, only_set, set_grown}
use Rattle.fa_store.proofs.pages.Pages.store.Goals as goal

pub returns-in-One-clause-grown : goal.returns-in-One-clause-grown
returns-in-One-clause-grown c =
    let before : only_page c.in-One.page ≡ c.args.self.now = search rules in
    let there = only_here c.in-One.page in
    rw (sym before, c.if-place-eq0.true)
    (set_grown (page_of (only_page c.store.new.self)) (page_of (only_page c.in-One.page)) 0 c.store.new.self (only_set c.in-One.page c.store.new.self)
    (λ i. c.store.ensures.same i ∙ sym (ap (λ p. get_or p i 0) there)) (rw there c.store.ensures.kept))

pub returns-in-One-clause-stored : goal.returns-in-One-clause-stored
returns-in-One-clause-stored c = rw (c.if-place-eq0.true, only_here c.store.new.self) c.store.ensures.stored
