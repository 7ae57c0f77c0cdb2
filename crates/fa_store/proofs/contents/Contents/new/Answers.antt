use Rattle.fa_store.specs.parts.PageParts.{page_of}
use Rattle.fa_store.proofs.ContentsLemmas.{byte_none, bytes_none}
use Rattle.fa_store.proofs.contents.Contents.new.Goals as goal

pub invariant_of-result : goal.invariant_of-result
invariant_of-result c i behind = byte_none c.new.result c.new.ensures i

pub returns : goal.returns
returns c = bytes_none (page_of c.new.result)
