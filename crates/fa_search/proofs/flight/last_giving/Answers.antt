use Rattle.std.proofs.Common.{◌≡◌, ◌≤◌, length, take, sym, subst, arith, rules}
use Rattle.std.specs.Prelude.{All}
use Rattle.std.proofs.lemmas.List.{take_all}
use Rattle.fa_search.specs.parts.Configurations.{IsGivenUpTo}
use Rattle.fa_search.proofs.FlightLemmas.{given_more}
use Rattle.fa_search.proofs.flight.last_giving.Goals as goal

pub loop-name-preserved : goal.loop-name-preserved
loop-name-preserved c =
    let later : c.loop-name.last ≤ c.max-last.result = search rules in
    let late : c.in-Given.by ≤ c.max-last.result = search rules in
    given_more c.args.names.now c.loop-name.name-index c.loop-name.last c.max-last.result c.loop-name-test.true later (subst (IsGivenUpTo c.max-last.result) (sym c.in-Given.is) late) c.loop-name.invariant

pub returns : goal.returns
returns c =
    let names = c.args.names.now in
    let all : take c.loop-name.name-index names ≡ names = (let end = c.loop-name-test.false in take_all c.loop-name.name-index names (omega (arith, end))) in
    subst (All (IsGivenUpTo c.loop-name.last)) all c.loop-name.invariant
