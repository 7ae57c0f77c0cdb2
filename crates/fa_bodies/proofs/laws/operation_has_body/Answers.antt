use Rattle.fa_bodies.proofs.OperationLaws.{operation-bodies}
use Rattle.fa_bodies.proofs.laws.operation_has_body.Goals as goal

pub returns : goal.returns
returns c = operation-bodies
