use Rattle.std.proofs.Common.{◌≡◌, ap, ◌∙◌}
use Rattle.fa_store.specs.parts.PageParts.{far_page}
use Rattle.fa_store.proofs.PageLemmas.{popped_front}
use Rattle.fa_store.proofs.far_pages.FarPages.cut_from.Goals as goal

pub loop-self-preserved-in-loop-self : goal.loop-self-preserved-in-loop-self
loop-self-preserved-in-loop-self c k front =
    let some = c.has_from.ensures.some c.loop-self-test.true in
    let now : c.self.inside.pages.entries ≡ c.loop-self.self = c.self.view_is in
    popped_front c.self.inside.pages c.pop_last.new.self c.pop_last.result c.pop_last.ensures.unchanged c.pop_last.ensures.updates c.pop_last.ensures.greatest
    c.args.place some.0 some.1 (rw now some.2) k front
    ∙ (ap (λ far. far_page far k) now ∙ c.loop-self.invariant k front)
