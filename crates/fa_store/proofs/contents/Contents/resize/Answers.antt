use Rattle.std.proofs.Common.{◌≡◌, ℕ, ◌<◌, sym, refl}
use Rattle.fa_store.specs.parts.PageParts.{page_of, byte_at}
use Rattle.fa_store.proofs.ContentsLemmas.{resized_is}
use Rattle.fa_store.proofs.contents.Contents.resize.Goals as goal
use Rattle.fa_store.proofs.contents.Contents.resize.Goals.{then-size-self, else-size-self}

pub returns-clause-resized : goal.returns-clause-resized
returns-clause-resized c =
    let same : (i : ℕ) → i < c.args.size → byte_at (page_of c.if-size-self.self-inside.pages) i ≡ byte_at (page_of c.self.inside.pages) i =
    λ i below. elim c.if-size-self.branch [
      | then-size-self w ↦ rw w.self-inside-is (w.cut.ensures.in_front i below)
      | else-size-self w ↦ rw w.self-inside-is refl
    ] in
    rw (sym c.self.view_is) (resized_is (page_of c.if-size-self.self-inside.pages) c.self.inside.len (page_of c.self.inside.pages) c.args.size c.self.invariant same)
