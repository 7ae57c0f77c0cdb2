use Rattle.std.specs.Prelude.{All, take}
use Rattle.fa_search.specs.parts.Configurations.{IsGivenUpTo}
use Rattle.fa_search.proofs.flight.last_giving.Given as goal

abbrev pub invariant-loop-name : goal.invariant-loop-name
invariant-loop-name l = All (IsGivenUpTo l.last) (take l.name-index l.names)
