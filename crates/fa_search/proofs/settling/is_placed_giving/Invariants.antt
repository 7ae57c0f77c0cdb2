use Rattle.std.specs.Prelude.{Contains}
use Rattle.std.specs.Map.{values_of}
use Rattle.fa_search.specs.declared.flight.Pending.{Pending}
use Rattle.fa_search.proofs.settling.is_placed_giving.Given as goal

abbrev pub invariant-loop-other : goal.invariant-loop-other
invariant-loop-other l = (pending : Pending) → Contains l.other-iterator pending → Contains (values_of l.fn.flight.requests.entries) pending
