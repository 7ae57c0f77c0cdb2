use Rattle.std.proofs.Common.{refl, inr}
use Rattle.fa_search.proofs.configuration.Known.push_new.Goals as goal

pub returns-then-has : goal.returns-then-has
returns-then-has c = inr (refl, rw c.deref.ensures.value at (c.has.ensures c.if-has.true))
