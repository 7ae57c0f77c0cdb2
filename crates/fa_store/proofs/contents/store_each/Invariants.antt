use Rattle.std.proofs.Common.{◌-◌, ◌≤◌}
use Rattle.fa_store.specs.parts.PageParts.{page_of, SameBytes, IsStored}
use Rattle.fa_store.proofs.contents.store_each.Given as goal

abbrev pub invariant-loop-at : goal.invariant-loop-at
invariant-loop-at l = record {
  same : SameBytes (page_of l.pages) (page_of l.fn.pages);
  from : l.start ≤ l.at;
  stored : IsStored (page_of l.pages) l.start l.at;
}

abbrev pub decreases-loop-at : goal.decreases-loop-at
decreases-loop-at l = l.end - l.at
