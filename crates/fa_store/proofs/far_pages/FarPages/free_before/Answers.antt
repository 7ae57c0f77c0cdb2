use Rattle.std.proofs.Common.{◌<◌, ◌≡◌, [], sym, ap, ◌∙◌, arith}
use Rattle.fa_store.specs.parts.PageParts.{far_page}
use Rattle.fa_store.proofs.PageLemmas.{none_below, far_none, no_entries}
use Rattle.fa_store.proofs.far_pages.FarPages.free_before.Goals as goal

pub returns-in-Some : goal.returns-in-Some
returns-in-Some c k front =
    let below : k < c.in-Some.first.now = omega (arith, c.min.ensures, front) in
    rw (sym c.self.view_is) (none_below c.self.inside.pages.entries c.in-Some.first.now k c.in-Some.ensures.least below)

pub returns-in-None : goal.returns-in-None
returns-in-None c k front =
    let empty : c.self.inside.pages.entries ≡ [] = no_entries c.self.inside.pages.entries c.in-None.ensures.variant.1 in
    rw (sym c.self.view_is) (ap (λ far. far_page far k) empty ∙ far_none k)
