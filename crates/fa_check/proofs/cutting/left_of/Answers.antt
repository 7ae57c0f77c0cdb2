use Rattle.std.proofs.Common.{ℕ, inl, sym, subst, ap, ◌∙◌, arith}
use Rattle.std.specs.Prelude.{Option}
use Rattle.std.proofs.lemmas.Option.{slice_get_within}
use Rattle.fa_ledger.specs.Kinds.{KeepsTree}
use Rattle.fa_ledger.specs.Operations.{PlainOperation}
use Rattle.fa_check.specs.Cuts.{Stays, wrote_without}
use Rattle.fa_check.proofs.CuttingLemmas.{on_none, no_call, found_as, shown_open, shown_early, shown_goes, shown_stays}
use Rattle.fa_check.proofs.cutting.left_of.Goals as goal
use Rattle.fa_check.proofs.PlacingLemmas.{none_of}

pub returns-in_default-clause-goes : goal.returns-in_default-clause-goes
returns-in_default-clause-goes c = λ messages is.
    inl (no_call c.args.calls.now c.args.entry.at (on_none c.find.result _ c.find.ensures.none c.in_default.not-Some) messages is)

pub call-call-requires : goal.call-call-requires
call-call-requires c =
    let list = c.args.calls.now.list in
    let found = c.in-Some.ensures.found in
    let within = slice_get_within list c.in-Some.place found.0 found.1 in
    omega (arith, within)

pub returns-in_default-answer-clause-stays : goal.returns-in_default-answer-clause-stays
returns-in_default-answer-clause-stays c = λ messages is.
    shown_open c.args.calls.now c.in-Some.place c.args.messages c.args.entry c.call-call.result
    (found_as c.args.calls.now c.in-Some.place c.args.entry.at c.call-call.result c.in-Some.ensures.found c.call-call.ensures) messages is
    (none_of c.call-call.result.answer c.in_default-answer.not-Some)

pub returns-then-answer-messages-clause-stays : goal.returns-then-answer-messages-clause-stays
returns-then-answer-messages-clause-stays c = λ messages is.
    shown_early c.args.calls.now c.in-Some.place c.args.messages c.args.entry c.call-call.result
    (found_as c.args.calls.now c.in-Some.place c.args.entry.at c.call-call.result c.in-Some.ensures.found c.call-call.ensures) messages is
    c.in-Some-answer.answer c.in-Some-answer.is c.if-answer-messages.true

pub returns-then-keeps_tree-clause-goes : goal.returns-then-keeps_tree-clause-goes
returns-then-keeps_tree-clause-goes c = λ messages is.
    shown_goes c.args.calls.now c.in-Some.place c.args.messages c.args.entry c.call-call.result
    (found_as c.args.calls.now c.in-Some.place c.args.entry.at c.call-call.result c.in-Some.ensures.found c.call-call.ensures) messages is
    c.in-Some-answer.answer c.in-Some-answer.is c.if-answer-messages.false (subst KeepsTree c.operation-operation.ensures (c.keeps_tree.ensures.0 c.if-keeps_tree.true))

pub returns-clause-stays : goal.returns-clause-stays
returns-clause-stays c = λ messages is.
    subst (λ (w : Option ℕ). Stays messages c.args.messages c.args.entry (record { at = c.args.entry.at; wrote = w })) (sym (c.wrote_without.ensures ∙ ap (λ (o : PlainOperation). wrote_without o c.args.entry.wrote) c.operation-operation.ensures))
    (shown_stays c.args.calls.now c.in-Some.place c.args.messages c.args.entry c.call-call.result
    (found_as c.args.calls.now c.in-Some.place c.args.entry.at c.call-call.result c.in-Some.ensures.found c.call-call.ensures) messages is
    c.in-Some-answer.answer c.in-Some-answer.is c.if-answer-messages.false (λ leaves. let told = c.keeps_tree.ensures.1 (subst KeepsTree (sym c.operation-operation.ensures) leaves) in let other = c.if-keeps_tree.false in absurd cc))
