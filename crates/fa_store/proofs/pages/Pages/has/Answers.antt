use Rattle.std.proofs.Common.{◌≡◌, sym, rules}
use Rattle.fa_store.specs.parts.PageParts.{only_page}
use Rattle.fa_store.proofs.PageLemmas.{only_here, only_others}
use Rattle.fa_store.proofs.pages.Pages.has.Goals as goal

pub returns-in-One : goal.returns-in-One
returns-in-One c =
    let before : only_page c.in-One.page ≡ c.args.self.now = search rules in
    rw (sym before, c.if-place-eq0.true, only_here c.in-One.page) c.has.ensures

pub returns-in-One-2 : goal.returns-in-One-2
returns-in-One-2 c =
    let before : only_page c.in-One-2.field-0 ≡ c.args.self.now = search rules in
    rw (sym before, only_others c.in-One-2.field-0 c.args.place c.if-place-eq0.false) c.are_zeros.ensures
