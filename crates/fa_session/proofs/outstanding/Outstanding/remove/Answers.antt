use Rattle.std.proofs.Common.{refl}
use Rattle.fa_session.proofs.OutstandingLemmas.{without_newest, without_earlier}
use Rattle.fa_session.proofs.outstanding.Outstanding.remove.Goals as goal

pub invariant_of-self : goal.invariant_of-self
invariant_of-self c = without_newest c.self.inside _ c.self.invariant refl refl refl

pub invariant_of-self-else-has_unique : goal.invariant_of-self-else-has_unique
invariant_of-self-else-has_unique c =
    without_earlier c.self.inside _ c.self.invariant c.args.unique refl refl c.swap_remove.ensures.updates.0
