use Rattle.std.proofs.Common.{sym, ap, subst, ◌∙◌, arith}
use Rattle.std.specs.Iterator.Adapters.{take_count, take_source}
use Rattle.fa_capture.specs.Captures.{records_left}
use Rattle.fa_capture.specs.Message.{message, recorded, without_times}
use Rattle.fa_watch.specs.Refusals.{IsRefusal}
use Rattle.fa_audit.proofs.ProtocolLemmas.{good_at_first, few_before, good_more, message_fault, front_shown, calls_of_shown}
use Rattle.fa_audit.proofs.protocol.calls_of_front.Goals as goal

pub loop-packet-init : goal.loop-packet-init
loop-packet-init c =
    let begins = c.into_iter-packet-iterator.ensures.into_iter_gives in
    let count = ap take_count begins ∙ c.take-packet-items.ensures.count in
    let source = ap take_source begins ∙ c.take-packet-items.ensures.source in (
      tt,
      tt,
      (omega (arith, count)),
      good_at_first c.args.capture.now _ _ _ (sym (ap records_left source ∙ c.packets.ensures)) (record { session = c.new-session.ensures; ledger = c.new-ledger.ensures }),
    )

pub accept-requires : goal.accept-requires
accept-requires c =
    let good = c.loop-packet.invariant.3 in
    (without_times good.rs, good.both, few_before c.args.capture.now _ _ (recorded c.in-Some.packet) c.in-Some.ensures.steps.0 good.rs good.whole)

pub loop-packet-preserved : goal.loop-packet-preserved
loop-packet-preserved c =
    let good = c.loop-packet.invariant.3 in
    let steps = c.in-Some.ensures.steps in
    let few = few_before c.args.capture.now _ _ (recorded c.in-Some.packet) steps.0 good.rs good.whole in (
      tt,
      tt,
      (omega (arith, steps.1, c.loop-packet.invariant.2)),
      good_more c.args.capture.now _ _ (recorded c.in-Some.packet) steps.0 c.loop-packet.at c.loop-packet.session c.accept.new.session c.loop-packet.ledger c.accept.new.ledger good
          (c.in-Ok.ensures.shows (without_times good.rs) good.both few),
    )

pub returns-in-Err-Refused-clause-fault : goal.returns-in-Err-Refused-clause-fault
returns-in-Err-Refused-clause-fault c = λ bytes is.
    let good = c.loop-packet.invariant.3 in
    let steps = c.in-Some.ensures.steps in
    let few = few_before c.args.capture.now _ _ (recorded c.in-Some.packet) steps.0 good.rs good.whole in
    let refusal = subst (IsRefusal (without_times good.rs) (message c.in-Some.packet)) c.in-Err-Refused.field-0-is (c.in-Err-Refused.ensures.refused (without_times good.rs) good.both few) in
    rw c.in-Err-Refused.field-0-is
    (message_fault c.args.capture.now _ _ (recorded c.in-Some.packet) steps.0 bytes c.loop-packet.at c.in-Err-Refused.code c.loop-packet.session c.loop-packet.ledger good refusal is)

pub returns-clause-calls : goal.returns-clause-calls
returns-clause-calls c =
    let kept = c.loop-packet.invariant in
    let both = front_shown c.args.capture.now c.args.messages _ _ _ _ _ kept.3 kept.2 (λ some. (c.in-None.ensures.steps some).0) in
    calls_of_shown _ _ _ c.into_calls.result both (c.into_calls.ensures _ both.ledger)
