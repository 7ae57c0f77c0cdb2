use Rattle.std.proofs.Common.{◌≡◌, ◌<◌, [], ◌∙◌, sym, ap, arith}
use Rattle.std.proofs.lemmas.Bool.{leb-false}
use Rattle.fa_store.specs.parts.PageParts.{far_page}
use Rattle.fa_store.proofs.PageLemmas.{none_above, far_none, no_entries}
use Rattle.fa_store.proofs.far_pages.FarPages.has_from.Goals as goal

pub returns-in-Some-clause-none : goal.returns-in-Some-clause-none
returns-in-Some-clause-none c told k from =
    let behind : c.in-Some.last.now < c.args.place = leb-false c.args.place c.in-Some.last.now told in
    rw (sym c.self.view_is) (none_above c.self.inside.pages.entries c.in-Some.last.now k c.in-Some.ensures.greatest (omega arith))

pub returns-in-None-clause-none : goal.returns-in-None-clause-none
returns-in-None-clause-none c told k from =
    let empty : c.self.inside.pages.entries ≡ [] = no_entries c.self.inside.pages.entries c.in-None.ensures.variant.1 in
    rw (sym c.self.view_is) (ap (λ far. far_page far k) empty ∙ far_none k)
