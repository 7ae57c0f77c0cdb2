use Rattle.std.proofs.Common.{◌≡◌, ℕ, List, Option, Some, None}
use Rattle.std.proofs.Math.Logic.{∥∥₁_elim}
use Rattle.std.specs.Prelude.{slice_get, IfNone}
use Rattle.fa_ledger.specs.Calls.{PlainCall}
use Rattle.fa_ledger.proofs.calls.Calls.find.Goals as goal

-- that nothing is found is one fact
none_is_one : (o : Option ℕ) (calls : List PlainCall) (at : ℕ) → IsProp (IfNone o ((place : ℕ) (call : PlainCall) → slice_get calls place ≡ Some call → call.asked ≡ at → ⊥))
none_is_one None calls at = hlevel
none_is_one (Some place) calls at = hlevel

pub returns-clause-none : goal.returns-clause-none
returns-clause-none c = ∥∥₁_elim c.args.self.now.good (none_is_one c.place_of.result c.args.self.now.list c.args.at) (λ good. c.place_of.ensures.none good.3.exact.rising)
