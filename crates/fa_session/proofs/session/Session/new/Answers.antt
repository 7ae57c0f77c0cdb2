use Rattle.std.proofs.Common.{refl}
use Rattle.fa_session.proofs.TableLemmas.{nothing_shown}
use Rattle.fa_session.proofs.session.Session.new.Goals as goal

pub returns : goal.returns
returns c = nothing_shown _ c.new.result refl refl refl c.new.ensures
