use Rattle.std.proofs.Common.{◌+◌, refl}
use Rattle.fa_search.specs.declared.flight.InFlight.{InFlight}
use Rattle.fa_search.proofs.BetweenLemmas.{answered_by, answer_asks_none}
use Rattle.fa_search.proofs.flight.InFlight.answer.Goals as goal

pub returns-clause-flight : goal.returns-clause-flight
returns-clause-flight c = λ messages is flight answer.
    let old = c.args.self.now in
    let new : InFlight = record { requests = c.remove.new.self; seen = old.seen; at = old.at + 1; last_uses = old.last_uses } in
    answered_by messages c.args.calls.now.list is.are old new refl refl flight refl (answer_asks_none messages c.args.calls.now.list is.are old new refl refl flight c.args.pending.now.place answer)
    c.len.ensures.ordered c.remove.ensures.ordered c.remove.ensures.updates
