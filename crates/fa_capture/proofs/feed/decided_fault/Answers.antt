use Rattle.std.proofs.Common.{sym, ◌∙◌, arith}
use Rattle.fa_capture.proofs.BytesLemmas.{are_bytes}
use Rattle.fa_capture.proofs.PieceLemmas.{begun_is_open, other_decides, open_is_short}
use Rattle.fa_capture.proofs.StopLemmas.{stop_counts, stop_opens_whole, stop_opens_cut, stop_decides, no_stop, at_stop}
use Rattle.fa_capture.proofs.feed.decided_fault.Goals as goal

pub returns-then-begins_magic-clause-none : goal.returns-then-begins_magic-clause-none
returns-then-begins_magic-clause-none c none = begun_is_open c.args.bytes.now (c.begins_magic.ensures.begun c.if-begins_magic.true)

pub returns-then-begins_magic-clause-short : goal.returns-then-begins_magic-clause-short
returns-then-begins_magic-clause-short c none =
    let small = are_bytes c.args.bytes.now (λ i. omega (arith, c.type_inv.bytes i)) in
    open_is_short c.args.bytes.now small (returns-then-begins_magic-clause-none c none)

pub returns-else-begins_magic-clause-fault : goal.returns-else-begins_magic-clause-fault
returns-else-begins_magic-clause-fault c =
    other_decides c.args.bytes.now (no_stop c.args.bytes.now c.args.stop c.in_default.not-Some c.requires) (c.begins_magic.ensures.other c.if-begins_magic.false)

pub fault-requires : goal.fault-requires
fault-requires c = stop_counts c.args.bytes.now c.in-Some.stop (at_stop c.args.bytes.now c.args.stop c.in-Some.stop c.in-Some.is c.requires)

pub returns-in_err-fault-clause-none : goal.returns-in_err-fault-clause-none
returns-in_err-fault-clause-none c none =
    stop_opens_whole c.args.bytes.now (are_bytes c.args.bytes.now (λ i. omega (arith, c.type_inv.bytes i))) c.in-Some.stop
    (at_stop c.args.bytes.now c.args.stop c.in-Some.stop c.in-Some.is c.requires) (sym c.fault.ensures ∙ c.in_err-fault.was)

pub returns-in_err-fault-clause-short : goal.returns-in_err-fault-clause-short
returns-in_err-fault-clause-short c none =
    let small = are_bytes c.args.bytes.now (λ i. omega (arith, c.type_inv.bytes i)) in
    open_is_short c.args.bytes.now small (returns-in_err-fault-clause-none c none)

pub returns-then-fault-eq-CUT_OFF-clause-none : goal.returns-then-fault-eq-CUT_OFF-clause-none
returns-then-fault-eq-CUT_OFF-clause-none c none =
    stop_opens_cut c.args.bytes.now (are_bytes c.args.bytes.now (λ i. omega (arith, c.type_inv.bytes i))) c.in-Some.stop c.in_ok-fault.fault
    (at_stop c.args.bytes.now c.args.stop c.in-Some.stop c.in-Some.is c.requires) (sym c.fault.ensures ∙ c.in_ok-fault.was) c.if-fault-eq-CUT_OFF.true

pub returns-then-fault-eq-CUT_OFF-clause-short : goal.returns-then-fault-eq-CUT_OFF-clause-short
returns-then-fault-eq-CUT_OFF-clause-short c none =
    let small = are_bytes c.args.bytes.now (λ i. omega (arith, c.type_inv.bytes i)) in
    open_is_short c.args.bytes.now small (returns-then-fault-eq-CUT_OFF-clause-none c none)

pub returns-clause-fault : goal.returns-clause-fault
returns-clause-fault c =
    stop_decides c.args.bytes.now (are_bytes c.args.bytes.now (λ i. omega (arith, c.type_inv.bytes i))) c.in-Some.stop c.in_ok-fault.fault
    (at_stop c.args.bytes.now c.args.stop c.in-Some.stop c.in-Some.is c.requires) (sym c.fault.ensures ∙ c.in_ok-fault.was) c.if-fault-eq-CUT_OFF.false
