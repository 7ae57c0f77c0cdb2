use Rattle.std.proofs.lemmas.Result.{err_from_is_err_and}
use Rattle.fa_audit.proofs.CutOrderLemmas.{text_left, capture_no_cut, order_no_cut}
use Rattle.fa_audit.proofs.cutting.left_of.Goals as goal

pub returns-in_err-calls-clause-none : goal.returns-in_err-calls-clause-none
returns-in_err-calls-clause-none c =
    let p = err_from_is_err_and c.from_residual.result c.from_residual.ensures.1 in
    rw (p.1, p.2) (λ bytes is. capture_no_cut bytes c.args.order.now c.in_err-calls.field-0.0 (c.in_err-calls.ensures.fault bytes is))

pub returns-in_err-entries-clause-none : goal.returns-in_err-entries-clause-none
returns-in_err-entries-clause-none c =
    let p = err_from_is_err_and c.from_residual-in_err-entries.result c.from_residual-in_err-entries.ensures.1 in
    rw (p.1, p.2)
    (λ bytes is. order_no_cut bytes c.args.order.now c.in_ok-calls.calls c.in_err-entries.field-0.0 (c.in_ok-calls.ensures.good bytes is) c.in_err-entries.ensures.fault)

pub returns-clause-text : goal.returns-clause-text
returns-clause-text c = λ bytes is.
    let of = c.in_ok-calls.ensures.good bytes is in
    text_left bytes c.args.order.now c.args.messages c.in_ok-calls.calls c.in_ok-entries.entries.items c.in_ok-left.left.items _ of
    c.in_ok-entries.ensures.found (rw (← c.deref.ensures.value) (c.in_ok-left.ensures of.messages of.are))
    (rw (← c.deref-2.ensures.value) c.in_ok-write_order.ensures)
