use Rattle.fa_audit.proofs.ProtocolLemmas.{all_messages, framing_fault, calls_of_good}
use Rattle.fa_audit.proofs.protocol.good_calls.Goals as goal

pub returns-in-Some-clause-fault : goal.returns-in-Some-clause-fault
returns-in-Some-clause-fault c = λ bytes is.
    let are = all_messages c.args.capture.now c.in_ok-calls.calls c.in_ok-calls.ensures.calls in
    rw c.in-Some.is (framing_fault bytes c.args.capture.now c.in-Some.field-0 c.in_ok-calls.calls are c.in-Some.is is)

pub returns-clause-good : goal.returns-clause-good
returns-clause-good c = λ bytes is.
    let are = all_messages c.args.capture.now c.in_ok-calls.calls c.in_ok-calls.ensures.calls in
    calls_of_good bytes c.args.capture.now c.in_ok-calls.calls are c.in-None.is is
