use Rattle.std.proofs.Common.{◌-◌, ◌≤◌, [], get_or, length, max}
use Rattle.std.specs.Vec.{vec_len}
use Rattle.fa_store.specs.parts.PageParts.{SameBytes}
use Rattle.fa_store.proofs.many_pages.add_pages.Given as goal

abbrev pub invariant-loop-alloc : goal.invariant-loop-alloc
invariant-loop-alloc l = record {
  kept : length l.fn.pages.items ≤ length l.pages.items;
  few : length l.pages.items ≤ max (length l.fn.pages.items) l.count;
  same : SameBytes (λ k. get_or l.pages.items k []) (λ k. get_or l.fn.pages.items k []);
}

abbrev pub decreases-loop-alloc : goal.decreases-loop-alloc
decreases-loop-alloc l = l.count - vec_len l.pages
