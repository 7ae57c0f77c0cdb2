use Rattle.fa_bodies.proofs.RequestLaws.{request-checks}
use Rattle.fa_bodies.proofs.laws.request_passes_checks.Goals as goal

pub returns : goal.returns
returns c = request-checks
