use Rattle.std.proofs.Common.{Some, None}
use Rattle.std.specs.Cmp.{unsigned_Decides}
use Rattle.std.proofs.lemmas.Slice.Eq.{strip_prefix_is}
use Rattle.fa_order.proofs.OrderLines.{no_end_without_feed}
use Rattle.fa_order.proofs.order.read_line_end.Goals as goal

pub returns-in_err-strip_prefix-2-clause-none : goal.returns-in_err-strip_prefix-2-clause-none
returns-in_err-strip_prefix-2-clause-none c =
    let e = strip_prefix_is unsigned_Decides c.args.left.now c.as_slice-2.result.now (Some c.in_ok-strip_prefix.field-0) c.in_ok-strip_prefix.ensures.cases in
    let no_feed = strip_prefix_is unsigned_Decides c.in_ok-count.rest.now c.as_slice-3.result.now None c.in_err-strip_prefix-2.ensures.cases in
    rw c.from_residual-in_err-strip_prefix-2.ensures
    (no_end_without_feed c.args.left.now c.in_ok-strip_prefix.field-0.now c.in_ok-count.rest.now c.in_ok-count.count c.in_ok-count.ensures.in_range (rw c.as_slice-2.ensures at e) c.in_ok-count.ensures.number c.in_ok-count.ensures.whole (rw c.as_slice-3.ensures at no_feed))
