use Rattle.std.proofs.Common.{below_more}
use Rattle.fa_tree_text.proofs.paths.has_whole_escapes.Goals as goal
use Rattle.fa_tree_text.proofs.paths.has_whole_escapes.Goals.{else-byte-eq37-via-then-byte-eq37+else-not-has_two_behind, else-byte-eq37-via-else-byte-eq37}

pub loop-place-preserved : goal.loop-place-preserved
loop-place-preserved c =
    below_more _ _ c.loop-place.invariant
    (elim c.else-byte-eq37.branch [
      | else-byte-eq37-via-then-byte-eq37+else-not-has_two_behind w ↦ λ here. w.has_two_behind.ensures.0 w.if-not-has_two_behind.false
      | else-byte-eq37-via-else-byte-eq37 w ↦ λ here. absurd (w.if-byte-eq37.false here)
    ])
