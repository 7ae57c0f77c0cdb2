use Rattle.std.proofs.Common.{◌≡◌, ◌++◌, map, take}
use Rattle.std.specs.Map.Iter.{deref_pair}
use Rattle.fa_propose.proofs.TryLemmas.{AreTriedSoFar}
use Rattle.fa_propose.proofs.ready.place_other.Given as goal

abbrev pub invariant-loop-rank : goal.invariant-loop-rank
invariant-loop-rank l =
    (l.tree ≡ l.fn.tree) × (l.placing ≡ l.fn.placing) × (l.replay ≡ l.fn.replay)
    × AreTriedSoFar l.fn.replay l.fn.tree l.fn.placing l.candidates (take 1 l.candidates ++ map deref_pair l.yielded) (take l.rank-iterator.n l.rank-iterator.iter)
