use Rattle.std.proofs.Common.{◌+◌, ◌-◌, ◌%◌, ◌/◌, ◌≤◌, ◌∙◌, arith}
use Rattle.fa_store.specs.parts.PageParts.{page_of}
use Rattle.fa_store.proofs.PageLemmas.{grown_same}
use Rattle.fa_store.proofs.ContentsLemmas.{still_stored, now_stored, stored_more}
use Rattle.fa_store.proofs.contents.store_each.Goals as goal

pub returns-in_err-store-clause-same : goal.returns-in_err-store-clause-same
returns-in_err-store-clause-same c place at =
    grown_same _ _ (c.loop-at.at / 4096) c.store.ensures.grown place at ∙ c.loop-at.invariant.same place at

pub loop-at-preserved : goal.loop-at-preserved
loop-at-preserved c =
    let grown = c.store.ensures.grown in
    let one : c.min-count.result ≤ 4096 - c.loop-at.at % 4096 = omega arith in
    record {
      same = λ place at. grown_same _ _ (c.loop-at.at / 4096) grown place at ∙ c.loop-at.invariant.same place at;
      from = omega (arith, c.loop-at.invariant.from);
      stored = stored_more _ c.args.start c.loop-at.at (c.loop-at.at + c.min-count.result)
          (λ i from below. still_stored _ (page_of c.loop-at.pages) c.loop-at.at grown i (c.loop-at.invariant.stored i from below))
          (now_stored _ c.loop-at.at c.min-count.result one c.in_ok-store.ensures.stored);
    }
