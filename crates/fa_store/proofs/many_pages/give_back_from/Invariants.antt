use Rattle.std.proofs.Common.{◌≡◌, ◌-◌, [], get_or, length}
use Rattle.std.specs.Vec.{vec_len}
use Rattle.fa_store.specs.parts.PageParts.{SameBytes}
use Rattle.fa_store.proofs.many_pages.give_back_from.Given as goal

abbrev pub invariant-loop-place : goal.invariant-loop-place
invariant-loop-place l = record {
  as_many : length l.pages.items ≡ length l.fn.pages.items;
  same : SameBytes (λ k. get_or l.pages.items k []) (λ k. get_or l.fn.pages.items k []);
}

abbrev pub decreases-loop-place : goal.decreases-loop-place
decreases-loop-place l = vec_len l.pages - l.place
