use Rattle.std.proofs.Common.{◌↔◌, ◌+◌, ◌-◌, ◌%◌, ◌≤◌, IsTrue, take, drop, length, refl, sym, ◌∙◌, arith}
use Rattle.std.proofs.lemmas.Bool.{false≢true}
use Rattle.fa_store.specs.parts.PageParts.{page_of, IsPart, page_at}
use Rattle.fa_store.proofs.ContentsLemmas.{piece_same, piece_from}
use Rattle.fa_store.proofs.contents.are_from.Goals as goal

pub returns-then-not-has : goal.returns-then-not-has
unfolding page_at
returns-then-not-has c =
    let told : IsTrue c.has.result ↔ IsPart (page_at (page_of c.args.pages.now) (c.args.start + c.loop-done.done)) ((c.args.start + c.loop-done.done) % 4096) (take (c.loop-done.done + c.min-count.result - c.loop-done.done) (drop c.loop-done.done c.args.bytes.now)) = c.has.ensures in
    let fits : c.loop-done.done + c.min-count.result ≤ length c.args.bytes.now = omega arith in (
      (λ no. absurd (false≢true no)),
      (λ all. absurd (false≢true (sym c.if-not-has.true
          ∙ told.1 (piece_from (page_of c.args.pages.now) _ c.args.start c.args.bytes.now c.loop-done.done c.min-count.result refl fits (omega arith) all)))),
    )

pub loop-done-preserved : goal.loop-done-preserved
unfolding page_at
loop-done-preserved c =
    let told : IsTrue c.has.result ↔ IsPart (page_at (page_of c.args.pages.now) (c.args.start + c.loop-done.done)) ((c.args.start + c.loop-done.done) % 4096) (take (c.loop-done.done + c.min-count.result - c.loop-done.done) (drop c.loop-done.done c.args.bytes.now)) = c.has.ensures in
    let fits : c.loop-done.done + c.min-count.result ≤ length c.args.bytes.now = omega arith in
    record {
      within = fits;
      same = piece_same (page_of c.args.pages.now) _ c.args.start c.args.bytes.now c.loop-done.done c.min-count.result refl fits (omega arith) (told.0 c.if-not-has.false) c.loop-done.invariant.same;
    }
