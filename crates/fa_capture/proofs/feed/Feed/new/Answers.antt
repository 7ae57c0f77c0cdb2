use Rattle.fa_capture.proofs.PieceLemmas.{nothing_yet}
use Rattle.fa_capture.proofs.feed.Feed.new.Goals as goal

pub invariant_of-result : goal.invariant_of-result
invariant_of-result c = rw c.new.ensures.items nothing_yet
