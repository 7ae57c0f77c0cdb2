use Rattle.std.proofs.Common.{◌≡◌, ◌≤◌, length, sym, ◌∙◌}
use Rattle.std.proofs.lemmas.Bool.{false≢true, leb-true, le-leb}
use Rattle.std.proofs.lemmas.Bool.Decides.{Decides-eqb}
use Rattle.fa_store.specs.parts.PageParts.{page_of}
use Rattle.fa_store.proofs.ContentsLemmas.{read_all, read_front}
use Rattle.fa_store.proofs.contents.Contents.is_read.Goals as goal
use Rattle.fa_store.proofs.contents.Contents.is_read.Goals.{then-direct, else-direct}

pub returns-then-fits : goal.returns-then-fits
returns-then-fits c =
    let from = c.are_from.ensures in
    rw (sym c.self.view_is) (elim c.if-direct.branch [
      | then-direct w ↦
          let told = read_front (page_of c.self.inside.pages) c.self.inside.len c.args.offset c.args.size c.min-start.result c.min-asked.result c.args.given.now c.min-start.ensures c.min-asked.ensures in
          let fits : length c.args.given.now ≤ c.min-asked.result = leb-true (length c.args.given.now) c.min-asked.result (sym w.fits-is ∙ c.if-fits.true) in
          rw w.if-direct.true ((λ yes. told.0 (fits, from.0 yes)), (λ is. from.1 (told.1 is).1))
      | else-direct w ↦
          let told = read_all (page_of c.self.inside.pages) c.self.inside.len c.args.offset c.args.size c.min-start.result c.min-asked.result c.args.given.now c.min-start.ensures c.min-asked.ensures in
          let fits : length c.args.given.now ≡ c.min-asked.result = (Decides-eqb (length c.args.given.now) c.min-asked.result).0 (sym w.fits-is ∙ c.if-fits.true) in
          rw w.if-direct.false ((λ yes. told.0 (fits, from.0 yes)), (λ is. from.1 (told.1 is).1))
    ])

pub returns-else-fits : goal.returns-else-fits
returns-else-fits c =
    rw (sym c.self.view_is) (elim c.if-direct.branch [
      | then-direct w ↦
          let told = read_front (page_of c.self.inside.pages) c.self.inside.len c.args.offset c.args.size c.min-start.result c.min-asked.result c.args.given.now c.min-start.ensures c.min-asked.ensures in
          rw w.if-direct.true (
            (λ yes. absurd (false≢true (sym c.if-fits.false ∙ yes))),
            (λ is. w.fits-is ∙ le-leb (length c.args.given.now) c.min-asked.result (told.1 is).0),
          )
      | else-direct w ↦
          let told = read_all (page_of c.self.inside.pages) c.self.inside.len c.args.offset c.args.size c.min-start.result c.min-asked.result c.args.given.now c.min-start.ensures c.min-asked.ensures in
          rw w.if-direct.false (
            (λ yes. absurd (false≢true (sym c.if-fits.false ∙ yes))),
            (λ is. w.fits-is ∙ (Decides-eqb (length c.args.given.now) c.min-asked.result).1 (told.1 is).0),
          )
    ])
