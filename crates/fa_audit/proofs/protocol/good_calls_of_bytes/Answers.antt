use Rattle.std.proofs.Common.{ap, is_some, subst, refl, arith}
use Rattle.fa_capture.specs.Message.{message, recorded, without_times}
use Rattle.fa_capture.proofs.CallerLemmas.{are_bytes}
use Rattle.fa_watch.specs.Refusals.{IsRefusal}
use Rattle.fa_audit.proofs.ProtocolLemmas.{few_taken, one_taken, refused_taken, framing_taken, all_taken_in, without_magic}
use Rattle.fa_audit.proofs.protocol.good_calls_of_bytes.Goals as goal

pub returns-in_default-clause-fault : goal.returns-in_default-clause-fault
returns-in_default-clause-fault c = without_magic c.args.bytes.now (c.in_default.ensures.none refl)

pub returns-in-Ok-None-clause-good : goal.returns-in-Ok-None-clause-good
returns-in-Ok-None-clause-good c =
    let taken = c.loop-packet.invariant in
    let read = c.in-Ok-None.ensures.end (ap is_some c.in-Ok-None.field-0-is) c.args.bytes.now taken.rs taken.read in
    all_taken_in c.args.bytes.now c.loop-packet.walk c.loop-packet.taken c.loop-packet.session c.loop-packet.ledger taken c.into_calls.result read c.into_calls.ensures

pub returns-in-Err-clause-fault : goal.returns-in-Err-clause-fault
returns-in-Err-clause-fault c =
    let taken = c.loop-packet.invariant in
    framing_taken c.args.bytes.now c.loop-packet.walk c.loop-packet.taken c.loop-packet.session c.loop-packet.ledger taken c.in-Err.code (c.in-Err.ensures.fault c.args.bytes.now taken.rs taken.read)

pub loop-packet-preserved : goal.loop-packet-preserved
loop-packet-preserved c =
    let taken = c.loop-packet.invariant in
    let read = (rw c.in-Ok-Some.field-0-is at c.in-Ok-Some.ensures.packet) c.args.bytes.now taken.rs taken.read in
    let few = few_taken c.args.bytes.now c.loop-packet.walk c.next.new.self (recorded c.in-Ok-Some.packet) c.loop-packet.taken c.loop-packet.session c.loop-packet.ledger taken read in
    one_taken c.args.bytes.now c.loop-packet.walk c.next.new.self (recorded c.in-Ok-Some.packet) c.loop-packet.taken c.loop-packet.session c.loop-packet.ledger taken read
    c.accept.new.session c.accept.new.ledger (c.in-Ok.ensures.shows (without_times taken.rs) taken.both few)

pub returns-in-Err-Refused-clause-fault : goal.returns-in-Err-Refused-clause-fault
returns-in-Err-Refused-clause-fault c =
    let taken = c.loop-packet.invariant in
    let read = (rw c.in-Ok-Some.field-0-is at c.in-Ok-Some.ensures.packet) c.args.bytes.now taken.rs taken.read in
    let few = few_taken c.args.bytes.now c.loop-packet.walk c.next.new.self (recorded c.in-Ok-Some.packet) c.loop-packet.taken c.loop-packet.session c.loop-packet.ledger taken read in
    let refusal = subst (IsRefusal (without_times taken.rs) (message c.in-Ok-Some.packet)) c.in-Err-Refused.field-0-is (c.in-Err-Refused.ensures.refused (without_times taken.rs) taken.both few) in
    rw c.in-Err-Refused.field-0-is
    (refused_taken c.args.bytes.now c.loop-packet.walk c.next.new.self (recorded c.in-Ok-Some.packet) c.loop-packet.taken c.loop-packet.session c.loop-packet.ledger taken read
    c.in-Err-Refused.code (are_bytes c.args.bytes.now (λ i. omega (arith, c.type_inv.bytes i))) refusal)
