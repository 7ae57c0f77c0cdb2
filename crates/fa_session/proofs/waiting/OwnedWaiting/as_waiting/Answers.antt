use Rattle.std.proofs.Common.{rules}
use Rattle.fa_session.specs.parts.RequestSaid.{RequestSaid}
use Rattle.fa_session.proofs.WaitLemmas.{said_again, same_said}
use Rattle.fa_session.proofs.waiting.OwnedWaiting.as_waiting.Goals as goal

pub invariant_of-result : goal.invariant_of-result
invariant_of-result c =
    record { said = said_again c.args.self.now.bytes.items c.as_slice.result.now c.args.self.now.unique c.as_slice.ensures.value c.args.self.now.said }

pub returns-clause-request : goal.returns-clause-request
returns-clause-request c =
    let one = λ (said : RequestSaid c.as_slice.result.now c.args.self.now.unique).
    same_said c.args.self.now.bytes.items c.as_slice.result.now c.args.self.now.unique c.as_slice.ensures.value c.args.self.now.said said in
    search rules
