use Rattle.std.proofs.Common.{arith}
use Rattle.fa_capture.proofs.BytesLemmas.{are_bytes}
use Rattle.fa_capture.proofs.StopLemmas.{stop_counts, stop_reaches, stop_holds, capture_framed, capture_there}
use Rattle.fa_capture.proofs.capture.Capture.up_to.Goals as goal

pub slice_bounds-of-count : goal.slice_bounds-of-count
slice_bounds-of-count c = (stop_reaches c.args.bytes.now c.magic.result.now c.args.stop.now c.magic.ensures c.requires).0

pub of-packets-requires : goal.of-packets-requires
of-packets-requires c = stop_holds c.args.bytes.now c.magic.result.now c.args.stop.now c.magic.ensures c.requires

pub overflow_cast-result : goal.overflow_cast-result
overflow_cast-result c = omega (arith, stop_counts c.args.bytes.now c.args.stop.now c.requires)

pub fault-requires : goal.fault-requires
fault-requires c = stop_counts c.args.bytes.now c.args.stop.now c.requires

pub invariant_of-result : goal.invariant_of-result
invariant_of-result c =
    let both = capture_framed c.args.bytes.now c.magic.result.now c.args.stop.now c.magic.ensures c.requires c.of-packets.result.format c.of-packets.result.bytes.now c.of-packets.ensures.format c.of-packets.ensures.bytes c.of-packets.result.records in
    record {
      framed = both.0;
      counted = both.1;
      of_bytes = ∣ (
        c.args.bytes.now,
        capture_there c.args.bytes.now c.magic.result.now (are_bytes c.args.bytes.now (λ i. omega (arith, c.type_inv.bytes i))) c.args.stop.now c.magic.ensures c.requires c.of-packets.result.format c.of-packets.result.bytes.now
            c.of-packets.ensures.format c.of-packets.ensures.bytes c.of-packets.result.records c.fault.result c.fault.ensures,
      ) ∣₁;
    }

pub returns : goal.returns
returns c =
    capture_there c.args.bytes.now c.magic.result.now (are_bytes c.args.bytes.now (λ i. omega (arith, c.type_inv.bytes i))) c.args.stop.now c.magic.ensures c.requires c.of-packets.result.format c.of-packets.result.bytes.now
    c.of-packets.ensures.format c.of-packets.ensures.bytes c.of-packets.result.records c.fault.result c.fault.ensures
