use Rattle.fa_picture.proofs.MomentLemmas.{AreMomentsUpTo}
use Rattle.fa_picture.proofs.taking_effect.moments.Given as goal

abbrev pub invariant-loop-entry : goal.invariant-loop-entry
invariant-loop-entry l = AreMomentsUpTo l.order l.entry-index l.moments.items l.latest
