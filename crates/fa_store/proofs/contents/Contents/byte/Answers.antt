use Rattle.std.proofs.Common.{Some, sym, ap, ◌∙◌}
use Rattle.std.specs.Prelude.{slice_get}
use Rattle.fa_store.specs.parts.PageParts.{page_of}
use Rattle.fa_store.proofs.ContentsLemmas.{byte_found, byte_not_found}
use Rattle.fa_store.proofs.contents.Contents.byte.Goals as goal

pub returns-then-at-self : goal.returns-then-at-self
returns-then-at-self c =
    ap Some c.byte.ensures
    ∙ sym (byte_found (page_of c.self.inside.pages) c.self.inside.len c.args.offset c.if-at-self.true)
    ∙ ap (λ bytes. slice_get bytes c.args.offset) c.self.view_is

pub returns-else-at-self : goal.returns-else-at-self
returns-else-at-self c =
    sym (byte_not_found (page_of c.self.inside.pages) c.self.inside.len c.args.offset c.if-at-self.false)
    ∙ ap (λ bytes. slice_get bytes c.args.offset) c.self.view_is
