use Rattle.std.proofs.Common.{◌++◌, take, refl, sym, ap, ◌∙◌, arith}
use Rattle.std.proofs.lemmas.Option.{same_Some}
use Rattle.fa_ledger.specs.Calls.{PlainCall, call_shown}
use Rattle.fa_ledger.specs.SoFar.{entries_answered, listing_so_far}
use Rattle.fa_tree.specs.Directories.{times_listed}
use Rattle.fa_tree.proofs.ReplayLemmas.{counted_all, tally_after}
use Rattle.fa_tree.proofs.replay.note_first.Goals as goal

pub returns-then-count-kept : goal.returns-then-count-kept
returns-then-count-kept c = λ calls told there.
    let kept = told.1 in
    let answered = ap (λ (call : PlainCall). entries_answered call.operation) (same_Some _ _ (sym there ∙ kept.answer.1)) ∙ kept.answer.2 in
    counted_all c.args.kept.tally (listing_so_far calls.list c.args.kept.at) told.0 (entries_answered (call_shown c.args.call.now).operation) c.args.count answered
    (omega (arith, kept.count)) kept.tally

pub returns : goal.returns
returns c = λ calls told there.
    let so_far = listing_so_far calls.list c.args.kept.at in
    let counted = take c.args.count (entries_answered (call_shown c.args.call.now).operation) in
    tally_after c.without_answer-tally.result c.note_answered.new.tally so_far counted (so_far ++ counted) refl
    (c.without_answer-tally.ensures (λ name. times_listed name so_far) told.1.before) c.in_ok-note_answered.ensures.noted
