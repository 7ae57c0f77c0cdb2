use Rattle.std.proofs.Common.{◌≡◌, ◌≤◌, length}
use Rattle.fa_tree.specs.Alike.{IsInUse}
use Rattle.fa_search.specs.parts.Settling.{AreMerged}
use Rattle.fa_search.proofs.searching.merged.Given as goal

abbrev pub invariant-loop-one : goal.invariant-loop-one
invariant-loop-one l = record {
  merged : AreMerged (IsInUse l.in_use) l.yielded l.different.items;
  fewer : length l.different.items ≤ length l.yielded;
  budget : l.spending.budget ≡ l.fn.spending.budget;
}
