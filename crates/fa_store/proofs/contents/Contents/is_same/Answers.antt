use Rattle.std.proofs.Common.{sym, ap, ◌∙◌}
use Rattle.fa_store.specs.parts.PageParts.{page_of, bytes_of}
use Rattle.fa_store.proofs.ContentsLemmas.{bytes_same}
use Rattle.fa_store.proofs.contents.Contents.is_same.Goals as goal

pub returns-then-self-other : goal.returns-then-self-other
returns-then-self-other c = λ is.
    let own = c.self.inside in
    let other = c.other.inside in
    sym c.self.view_is ∙ bytes_same (page_of own.pages) (page_of other.pages) own.len (c.is_same.ensures is)
    ∙ ap (bytes_of (page_of other.pages)) c.if-self-other.true ∙ c.other.view_is
