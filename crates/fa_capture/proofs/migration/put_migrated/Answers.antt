use Rattle.std.proofs.Common.{[], ◌∷◌, ◌++◌, refl, ap, sym, ◌∙◌}
use Rattle.std.specs.Io.KnownBytes.{Appends, append_known}
use Rattle.std.proofs.lemmas.Result.{on_ok_weaker}
use Rattle.fa_capture.specs.Captures.{records_left, records_of}
use Rattle.fa_capture.specs.Message.{recorded}
use Rattle.fa_capture.proofs.OutputLemmas.{still_unbroken}
use Rattle.fa_capture.proofs.MigrateLemmas.{none_put, one_more_put, all_gathered_put, one_fewer, first_short}
use Rattle.fa_capture.proofs.migration.put_migrated.Goals as goal

pub loop-packet-init : goal.loop-packet-init
loop-packet-init g c =
    let output = g.W.Output in (
      tt,
      tt,
      still_unbroken (output.is_broken c.args.out.now) (output.is_broken c.args.out.now) (output.is_broken c.put_behind.new.out) refl c.in_ok-put_behind.ensures.broken,
      (
        [],
        sym (ap records_left c.into_iter-packet-iterator.ensures.into_iter_gives ∙ c.packets-packet-items.ensures),
        none_put (output.written c.args.out.now) (output.written c.put_behind.new.out) c.new-gathered.result.items c.magic.result.now c.put_behind.new.gathered.items c.new-gathered.ensures c.magic.ensures c.in_ok-put_behind.ensures.bytes,
      ),
    )

pub put_record-requires : goal.put_record-requires
put_record-requires g c =
    let held = c.loop-packet.invariant.3 in
    first_short (records_of c.args.capture.now) held.0 (records_left c.loop-packet.packet-iterator) (records_left c.next.new.self) (recorded c.in-Some.packet) c.in-Some.ensures.steps held.1 c.args.capture.now.framed

pub loop-packet-preserved : goal.loop-packet-preserved
loop-packet-preserved g c =
    let output = g.W.Output in
    let held = c.loop-packet.invariant.3 in
    let packet = recorded c.in-Some.packet in (
      tt,
      tt,
      still_unbroken (output.is_broken c.args.out.now) (output.is_broken c.loop-packet.out) (output.is_broken c.put_record.new.out) c.loop-packet.invariant.2 c.in_ok-put_record.ensures.broken,
      (
        held.0 ++ packet ∷ [],
        one_fewer (records_of c.args.capture.now) held.0 (records_left c.loop-packet.packet-iterator) (records_left c.next.new.self) packet c.in-Some.ensures.steps held.1,
        one_more_put (output.written c.args.out.now) (append_known (output.written c.loop-packet.out) c.loop-packet.gathered.items) (append_known (output.written c.put_record.new.out) c.put_record.new.gathered.items) held.0 packet held.2 c.in_ok-put_record.ensures.record,
      ),
    )

pub returns-clause-written : goal.returns-clause-written
returns-clause-written g c =
    let output = g.W.Output in
    let held = c.loop-packet.invariant.3 in
    let before = output.written c.loop-packet.out in
    let new = output.written c.put.new.self in
    on_ok_weaker c.put.result
    (λ (put : Appends before new c.deref.result.now). all_gathered_put (output.written c.args.out.now) before new c.loop-packet.gathered.items c.deref.result.now (records_of c.args.capture.now) held.0 (records_left c.loop-packet.packet-iterator)
    c.in-None.ensures.steps.0 held.1 held.2 c.deref.ensures.0 put)
    c.put.ensures.bytes
