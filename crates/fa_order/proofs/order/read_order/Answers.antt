use Rattle.std.proofs.Common.{◌≡◌, ◌+◌, ◌≤◌, length, Some, None, ap, arith}
use Rattle.std.specs.Cmp.{unsigned_Decides}
use Rattle.std.proofs.lemmas.Slice.Eq.{strip_prefix_is}
use Rattle.fa_order.proofs.OrderLemmas.{so_far_more, so_far_count, fault_next, fault_on}
use Rattle.fa_order.proofs.order.read_order.Goals as goal

pub loop-entry-preserved : goal.loop-entry-preserved
loop-entry-preserved c =
    rw c.in_ok-push.ensures.items
    (so_far_more c.args.bytes.now c.loop-entry.left.now c.in-Some-read_entry.rest.now c.loop-entry.entries.items c.in-Some-read_entry.entry c.loop-entry.invariant c.in-Some-read_entry.ensures.in_range c.in-Some-read_entry.ensures.found)

pub overflow_cast-line : goal.overflow_cast-line
overflow_cast-line c =
    let few : length c.loop-entry.entries.items ≤ length c.args.bytes.now = so_far_count c.args.bytes.now c.loop-entry.left.now c.loop-entry.entries.items c.loop-entry.invariant in
    omega (arith, few, c.requires, c.len.ensures, c.loop-entry.entries.ok.0)

pub overflow_add-line : goal.overflow_add-line
overflow_add-line c =
    let few : length c.loop-entry.entries.items ≤ length c.args.bytes.now = so_far_count c.args.bytes.now c.loop-entry.left.now c.loop-entry.entries.items c.loop-entry.invariant in
    omega (arith, few, c.requires, c.len.ensures, c.loop-entry.entries.ok.0)

pub overflow_add-result : goal.overflow_add-result
overflow_add-result c =
    let few : length c.loop-entry.entries.items ≤ length c.args.bytes.now = so_far_count c.args.bytes.now c.loop-entry.left.now c.loop-entry.entries.items c.loop-entry.invariant in
    omega (arith, few, c.requires, c.len.ensures, c.loop-entry.entries.ok.0)

pub returns-in-None-clause-fault : goal.returns-in-None-clause-fault
returns-in-None-clause-fault c =
    let no_end = strip_prefix_is unsigned_Decides c.loop-entry.left.now c.as_slice-2.result.now None c.in-None.ensures.cases in
    fault_next c.args.bytes.now c.loop-entry.left.now c.loop-entry.entries.items (c.len.result + 2) c.loop-entry.invariant c.in_default-read_entry.ensures.none (rw c.as_slice-2.ensures at no_end)
    (omega (arith, c.len.ensures, c.loop-entry.entries.ok.0))

pub returns-in-Some-strip_prefix-clause-fault : goal.returns-in-Some-strip_prefix-clause-fault
returns-in-Some-strip_prefix-clause-fault c =
    let end = strip_prefix_is unsigned_Decides c.loop-entry.left.now c.as_slice-2.result.now (Some c.in-Some-strip_prefix.field-0) c.in-Some-strip_prefix.ensures.cases in
    fault_on c.args.bytes.now c.loop-entry.left.now c.in-Some-strip_prefix.field-0.now c.loop-entry.entries.items (c.len.result + 2 + 1) c.loop-entry.invariant (rw c.as_slice-2.ensures at end)
    (λ none. let short : length c.in-Some-strip_prefix.field-0.now ≡ 0 = ap length none in omega (arith, short, c.in-Some-strip_prefix.len_at_least)) (omega (arith, c.len.ensures, c.loop-entry.entries.ok.0))
