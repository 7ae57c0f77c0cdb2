use Rattle.std.proofs.lemmas.Result.{on_ok_weaker}
use Rattle.fa_search.proofs.ToldLemmas.{told_without, told_placed, told_leaves_known}
use Rattle.fa_search.proofs.settling.place_if_keeping.Goals as goal

pub place_if_it_steps-requires-clause-allowed : goal.place_if_it_steps-requires-clause-allowed
place_if_it_steps-requires-clause-allowed c =
    let calls = c.args.tries.now.replay in
    let flight = c.args.flight.now in
    told_placed calls.list calls.messages flight.at calls.good c.args.pending c.requires.in_flight flight c.args.one.now (c.in_ok-idle.ensures.idle c.if-idle.true)

pub returns-then-idle-clause-further : goal.returns-then-idle-clause-further
returns-then-idle-clause-further c =
    let calls = c.args.tries.now.replay in
    let flight = c.args.flight.now in
    let pending = c.args.pending in
    let told = c.in_ok-idle.ensures.idle c.if-idle.true in
    on_ok_weaker c.place_if_it_steps.result
    (λ further. λ messages are.
    further messages flight.at are c.requires.in_flight (told_without calls.list calls.messages flight.at calls.good pending c.requires.in_flight flight c.args.one.now told)
    (told_leaves_known messages calls.list are.are flight c.requires.flight pending c.requires.in_flight c.args.one.now told)) c.place_if_it_steps.ensures.further
