use Rattle.std.proofs.Common.{◌≡◌, rules, tests}
use Rattle.std.specs.Map.{values_of}
use Rattle.std.proofs.lemmas.Iterator.{cases_from_all}
use Rattle.std.proofs.lemmas.Iterator.Consumers.{YieldsList-from_rest}
use Rattle.fa_search.specs.declared.flight.Pending.{Pending}
use Rattle.fa_search.proofs.BetweenLemmas.{alone_told}
use Rattle.fa_search.proofs.flight.InFlight.is_alone.Goals as goal

pub returns : goal.returns
returns c =
    let entries = c.args.self.now.requests.entries in
    let place = c.args.pending.now.place in
    alone_told place entries c.all.result
    (cases_from_all _ _ c.all.result (λ (p : Pending). p.place ≡ place) (λ (p : Pending). p.place ≡ place → ⊥) c.all.ensures.ran (YieldsList-from_rest (values_of entries) c.values.ensures.rest)
    (λ x q k. search (rules, tests)) (λ x q k. search (rules, tests)))
