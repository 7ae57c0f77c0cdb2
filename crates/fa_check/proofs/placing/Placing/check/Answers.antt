use Rattle.std.proofs.Common.{◌<◌, length, false, arith}
use Rattle.std.proofs.lemmas.Option.{slice_get_within}
use Rattle.fa_check.proofs.MarkLemmas.{mark_at}
use Rattle.fa_check.proofs.PlacingLemmas.{fails_early, fails_choice, place_holds}
use Rattle.fa_check.proofs.placing.Placing.check.Goals as goal

pub returns-then-self-entry-clause-fault : goal.returns-then-self-entry-clause-fault
returns-then-self-entry-clause-fault c =
    let calls = c.args.calls.now.list in
    let found = c.in-Some.ensures.found in
    let within : c.in-Some.place < length calls = slice_get_within calls c.in-Some.place found.0 found.1 in
    fails_early calls c.args.calls.now.messages c.args.calls.now.good c.args.self.now c.args.entry c.in-Some.place c.requires found
    (mark_at c.args.self.now.marks.items c.in-Some.place c.index.result.now false (omega (arith, within, c.requires.sized)) c.index.ensures c.if-index.false)
    c.if-self-entry.true

pub allows-requires : goal.allows-requires
allows-requires c =
    let list = c.args.calls.now.list in
    let found = c.in-Some.ensures.found in
    slice_get_within list c.in-Some.place found.0 found.1

pub returns-then-not-allows-clause-fault : goal.returns-then-not-allows-clause-fault
returns-then-not-allows-clause-fault c =
    let list = c.args.calls.now.list in
    let found = c.in-Some.ensures.found in
    let within = slice_get_within list c.in-Some.place found.0 found.1 in
    fails_choice list c.args.calls.now.messages c.args.calls.now.good c.args.self.now c.args.entry c.in-Some.place c.requires found
    (mark_at c.args.self.now.marks.items c.in-Some.place c.index.result.now false (omega (arith, within, c.requires.sized)) c.index.ensures c.if-index.false)
    c.if-self-entry.false
    (λ allowed. let answer = (c.allows.ensures found.0 found.1).1 allowed in let other = c.if-not-allows.true in absurd cc)

pub returns-clause-holds : goal.returns-clause-holds
returns-clause-holds c =
    let list = c.args.calls.now.list in
    let found = c.in-Some.ensures.found in
    let within = slice_get_within list c.in-Some.place found.0 found.1 in
    place_holds list c.args.calls.now.messages c.args.calls.now.good c.args.self.now c.args.entry c.in-Some.place c.requires found
    (mark_at c.args.self.now.marks.items c.in-Some.place c.index.result.now false (omega (arith, within, c.requires.sized)) c.index.ensures c.if-index.false)
    c.if-self-entry.false
    ((c.allows.ensures found.0 found.1).0 c.if-not-allows.false)
