use Rattle.std.proofs.Common.{length}
use Rattle.fa_capture.specs.parts.Walks.{ReadsOn}
use Rattle.fa_capture.proofs.walk.Walk.first_failure.Given as goal

abbrev pub invariant-loop-code : goal.invariant-loop-code
invariant-loop-code l = ReadsOn l.initial.self l.self

abbrev pub decreases-loop-code : goal.decreases-loop-code
decreases-loop-code l = length l.self.left
