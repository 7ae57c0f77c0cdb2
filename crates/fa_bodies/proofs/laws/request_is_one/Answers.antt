use Rattle.fa_bodies.proofs.RequestLaws.{request-one}
use Rattle.fa_bodies.proofs.laws.request_is_one.Goals as goal

pub returns : goal.returns
returns c = request-one
