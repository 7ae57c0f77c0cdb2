use Rattle.std.proofs.Common.{ap, get_or, [], ◌∙◌, arith}
use Rattle.std.proofs.lemmas.List.{length_push}
use Rattle.fa_store.proofs.PageLemmas.{list_longer}
use Rattle.fa_store.proofs.many_pages.add_pages.Goals as goal

pub loop-alloc-preserved : goal.loop-alloc-preserved
loop-alloc-preserved c =
    let before = c.loop-alloc.invariant in
    let long = length_push c.loop-alloc.pages.items [] in
    rw (c.in_ok-push.ensures.items, c.new.ensures) (record {
      kept = omega (arith, before.kept, long);
      few = omega (arith, before.few, long, c.loop-alloc-test.true, c.len-in-loop-alloc.ensures);
      same = λ k at. ap (λ p. get_or p at 0) (list_longer c.loop-alloc.pages.items k) ∙ before.same k at;
    })
