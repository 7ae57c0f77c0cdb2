use Rattle.std.proofs.Common.{[], sym, ap, ◌∙◌}
use Rattle.std.specs.Option.{unwrap_or}
use Rattle.fa_store.proofs.PageLemmas.{far_is}
use Rattle.fa_store.proofs.far_pages.FarPages.get.Goals as goal

pub returns : goal.returns
returns c =
    rw (sym c.self.view_is)
    (ap (λ o. unwrap_or o []) c.get.ensures.value ∙ sym (far_is c.self.inside.pages.entries c.args.place))
