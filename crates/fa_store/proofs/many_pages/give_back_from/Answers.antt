use Rattle.std.proofs.Common.{◌<◌, [], length, get_or, ap, ◌∙◌, arith}
use Rattle.std.proofs.lemmas.List.{get_or_default, length-set}
use Rattle.fa_store.proofs.PageLemmas.{list_alike}
use Rattle.fa_store.proofs.many_pages.give_back_from.Goals as goal

pub loop-place-preserved : goal.loop-place-preserved
loop-place-preserved c =
    let near = c.loop-place.pages.items in
    let within : c.loop-place.place < length near = omega (arith, c.len.ensures, c.loop-place-test.true, c.loop-place.pages.ok.0) in
    record {
      as_many = length-set near c.loop-place.place c.give_back.new.self ∙ c.loop-place.invariant.as_many;
      same = λ k at. list_alike near c.loop-place.place c.give_back.new.self within
          (λ i. c.give_back.ensures i ∙ ap (λ page. get_or page i 0) (c.index_mut-page.ensures.value ∙ get_or_default near c.loop-place.place c.index_mut-page.result.now [] within)) k at
          ∙ c.loop-place.invariant.same k at;
    }
