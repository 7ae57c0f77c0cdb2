use Rattle.std.proofs.Common.{◌≤◌, length, arith}
use Rattle.fa_order.proofs.OrderLemmas.{written_more, in_range_more, written_whole}
use Rattle.fa_order.proofs.order.write_order.Goals as goal

pub loop-entry-preserved : goal.loop-entry-preserved
loop-entry-preserved c = record {
  written = written_more _ _ c.args.entries.now c.loop-entry.entry-index _ (omega arith) c.loop-entry.invariant.written c.in_ok-write_entry.ensures.written;
  in_range = in_range_more c.args.entries.now c.loop-entry.entry-index _ (omega arith) c.loop-entry.invariant.in_range c.in_ok-write_entry.ensures.in_range;
}

pub returns : goal.returns
returns c =
    let all : length c.args.entries.now ≤ c.loop-entry.entry-index = omega arith in
    rw c.into_bytes.ensures.value (written_whole _ _ c.args.entries.now c.loop-entry.entry-index all c.loop-entry.invariant.written c.loop-entry.invariant.in_range c.in_ok-push_str-2.ensures.bytes)
