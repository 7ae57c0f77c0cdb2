use Rattle.std.proofs.Common.{◌≡◌, length}
use Rattle.fa_search.specs.parts.Settling.{AreWithoutBy}
use Rattle.fa_search.proofs.searching.without.Given as goal

abbrev pub invariant-loop-one : goal.invariant-loop-one
invariant-loop-one l = record {
  without : AreWithoutBy l.yielded l.asked l.held.items;
  length : length l.held.items ≡ length l.yielded;
}
