use Rattle.std.proofs.Common.{◌≡◌, ◌<◌, ℕ, Some}
use Rattle.std.specs.Prelude.{slice_get}
use Rattle.fa_ledger.specs.Calls.{PlainCall}
use Rattle.fa_search.specs.parts.Flight.{IsUseNoted}
use Rattle.fa_search.proofs.flight.last_uses.Given as goal

abbrev pub invariant-loop-place : goal.invariant-loop-place
invariant-loop-place l = (place : ℕ) (call : PlainCall) → place < l.place → slice_get l.calls.list place ≡ Some call → IsUseNoted call l.last_uses
