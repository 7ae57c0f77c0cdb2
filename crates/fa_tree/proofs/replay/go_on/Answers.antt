use Rattle.std.proofs.Common.{rules, ◌≡◌, ◌++◌, Some, take, sym, ap, ◌∙◌}
use Rattle.std.specs.Prelude.{slice_get}
use Rattle.std.proofs.lemmas.Option.{same_Some}
use Rattle.fa_ledger.specs.Calls.{PlainCall, call_shown}
use Rattle.fa_ledger.specs.SoFar.{entries_answered, listing_so_far}
use Rattle.fa_tree.specs.Directories.{times_listed}
use Rattle.fa_tree.specs.parts.TallyParts.{going_on_from}
use Rattle.fa_tree.proofs.ReplayLemmas.{look_back, listed_alike, listed_after, tally_same}
use Rattle.fa_tree.proofs.SoFarLemmas.{rising, rise}
use Rattle.fa_tree.proofs.ListingStepLemmas.{each_ok}
use Rattle.fa_tree.proofs.replay.go_on.Goals as goal

pub returns-then-go_on_alike : goal.returns-then-go_on_alike
returns-then-go_on_alike c =
    let calls = c.args.calls.now.list in
    let rises = rise calls (rising calls c.args.calls.now.messages c.args.calls.now.good) in
    let back = look_back calls c.args.calls.now.messages c.args.calls.now.good in
    let so_far = listing_so_far calls c.args.kept.at in
    tally_same c.without_answer.result so_far (listing_so_far calls c.args.k)
    (listed_alike calls rises back c.args.k c.args.kept.at _ _ c.call-call.ensures c.call-last.ensures (c.go_on_alike.ensures c.if-go_on_alike.true))
    (c.without_answer.ensures (λ name. times_listed name so_far) c.requires.told.1.before)

pub returns-then-earlier-at : goal.returns-then-earlier-at
returns-then-earlier-at c =
    let calls = c.args.calls.now.list in
    let rises = rise calls (rising calls c.args.calls.now.messages c.args.calls.now.good) in
    let back = look_back calls c.args.calls.now.messages c.args.calls.now.good in
    let there = c.call-call.ensures in
    let here = c.call-last.ensures in
    let last = call_shown c.call-last.result in
    let found = c.in-Some.ensures.found in
    let at : c.in-Some.earlier ≡ c.args.kept.at = search rules in
    let same : last ≡ found.0 = same_Some _ _ (sym here ∙ ap (slice_get calls) (sym at) ∙ found.1) in
    let goes : going_on_from calls (call_shown c.call-call.result) ≡ Some (last, c.in-Some.count) =
    found.2 ∙ ap (λ (last : PlainCall). Some (last, c.in-Some.count)) (sym same) in
    each_ok c.note_first.result _ _ (λ tally tells.
    tally_same tally (listing_so_far calls c.args.kept.at ++ take c.in-Some.count (entries_answered last.operation)) (listing_so_far calls c.args.k)
    (listed_after calls rises back c.args.k c.args.kept.at _ _ there here c.in-Some.count goes) (tells c.args.calls.now c.requires.told here)) c.note_first.ensures
