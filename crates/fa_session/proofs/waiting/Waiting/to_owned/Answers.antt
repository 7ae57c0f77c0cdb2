use Rattle.std.proofs.Common.{rules}
use Rattle.fa_session.specs.parts.RequestSaid.{RequestSaid}
use Rattle.fa_session.proofs.WaitLemmas.{said_again, same_said}
use Rattle.fa_session.proofs.waiting.Waiting.to_owned.Goals as goal

pub invariant_of-result : goal.invariant_of-result
invariant_of-result c =
    let copied = c.in_ok-bytes.ensures.items_if_clones_equal (λ x y e. e) in
    record { said = said_again c.args.self.now.bytes.now c.in_ok-bytes.bytes.items c.args.self.now.unique copied c.args.self.now.said }

pub returns-clause-request : goal.returns-clause-request
returns-clause-request c =
    let copied = c.in_ok-bytes.ensures.items_if_clones_equal (λ x y e. e) in
    let one = λ (said : RequestSaid c.in_ok-bytes.bytes.items c.args.self.now.unique).
    same_said c.args.self.now.bytes.now c.in_ok-bytes.bytes.items c.args.self.now.unique copied c.args.self.now.said said in
    search rules
