use Rattle.std.proofs.Common.{◌≡◌, fold, length}
use Rattle.fa_tree.specs.parts.NameFed.{name_fed}
use Rattle.fa_tree.proofs.name_hash.feed_name.Given as goal

-- what is fed still makes of the state what the name makes of it at first
abbrev pub invariant-loop-left : goal.invariant-loop-left
invariant-loop-left g l = fold g.H.Hasher.write l.state (name_fed l.left) ≡ fold g.H.Hasher.write l.fn.state (name_fed l.fn.name)

abbrev pub decreases-loop-left : goal.decreases-loop-left
decreases-loop-left g l = length l.left
