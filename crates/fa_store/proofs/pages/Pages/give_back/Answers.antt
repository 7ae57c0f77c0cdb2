use Rattle.std.proofs.Common.{◌≡◌, sym, ap, get_or, ◌∙◌, rules}
use Rattle.fa_store.specs.parts.PageParts.{only_page, page_of}
use Rattle.fa_store.proofs.PageLemmas.{only_here, only_set, set_same}
use Rattle.fa_store.proofs.pages.Pages.give_back.Goals as goal

pub returns-in-One : goal.returns-in-One
returns-in-One c =
    let before : only_page c.in-One.page ≡ c.args.self.now = search rules in
    rw (sym before)
    (set_same (page_of (only_page c.give_back.new.self)) (page_of (only_page c.in-One.page)) 0 c.give_back.new.self (only_set c.in-One.page c.give_back.new.self)
    (λ i. c.give_back.ensures i ∙ sym (ap (λ p. get_or p i 0) (only_here c.in-One.page))))
