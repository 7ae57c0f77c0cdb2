use Rattle.fa_store.specs.parts.PageParts.{page_of}
use Rattle.fa_store.proofs.ContentsLemmas.{bytes_none}
use Rattle.fa_store.proofs.contents.Contents.clear.Goals as goal

pub invariant_of-self : goal.invariant_of-self
invariant_of-self c = c.cut.ensures.behind

pub returns : goal.returns
returns c = bytes_none (page_of c.cut.new.pages)
