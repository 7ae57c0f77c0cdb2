use Rattle.std.proofs.Common.{length, sym}
use Rattle.std.proofs.lemmas.Bool.Decides.{Decides-eqb}
use Rattle.fa_store.specs.parts.PageParts.{page_of}
use Rattle.fa_store.proofs.ContentsLemmas.{all_are}
use Rattle.fa_store.proofs.contents.Contents.is.Goals as goal

pub returns-then-bytes-self : goal.returns-then-bytes-self
returns-then-bytes-self c =
    let told = all_are (page_of c.self.inside.pages) c.self.inside.len c.args.bytes.now in
    let from = c.are_from.ensures in
    rw (sym c.self.view_is) ((λ yes. told.0 (c.if-bytes-self.true, from.0 yes)), (λ same. from.1 (told.1 same).1))

pub returns-else-bytes-self : goal.returns-else-bytes-self
returns-else-bytes-self c =
    let told = all_are (page_of c.self.inside.pages) c.self.inside.len c.args.bytes.now in
    rw (sym c.self.view_is) (
      (λ yes. absurd (c.if-bytes-self.false ((Decides-eqb (length c.args.bytes.now) c.self.inside.len).0 yes))),
      (λ same. absurd (c.if-bytes-self.false (told.1 same).0)),
    )
