use Rattle.std.proofs.Common.{sym}
use Rattle.fa_store.specs.parts.PageParts.{page_of}
use Rattle.fa_store.proofs.ContentsLemmas.{length-bytes_of}
use Rattle.fa_store.proofs.contents.Contents.len.Goals as goal

pub returns : goal.returns
returns c = rw (sym c.self.view_is) (sym (length-bytes_of (page_of c.self.inside.pages) c.self.inside.len))
