use Rattle.std.proofs.Common.{refl}
use Rattle.fa_ledger.proofs.StandingLemmas.{nothing_shown}
use Rattle.fa_ledger.proofs.standing.Standing.new.Goals as goal

pub returns : goal.returns
returns c = nothing_shown _ refl c.new.ensures
