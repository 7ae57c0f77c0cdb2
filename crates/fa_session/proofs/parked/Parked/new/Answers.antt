use Rattle.std.proofs.Common.{refl}
use Rattle.fa_session.proofs.ParkedLemmas.{none_parked}
use Rattle.fa_session.proofs.parked.Parked.new.Goals as goal

pub returns : goal.returns
returns c = none_parked _ c.new.result.items refl refl refl c.new.ensures.items
