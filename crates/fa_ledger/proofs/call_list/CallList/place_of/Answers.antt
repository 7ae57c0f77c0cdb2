use Rattle.std.proofs.Common.{◌≡◌, ℕ, List, Some, subst}
use Rattle.std.specs.Prelude.{map, slice_get, IfNone}
use Rattle.std.specs.List.Sorted.{IsStrictlyIncreasing}
use Rattle.fa_ledger.specs.Calls.{PlainCall}
use Rattle.fa_ledger.proofs.call_list.CallList.place_of.Goals as goal

pub returns-clause-none : goal.returns-clause-none
returns-clause-none c =
    subst (λ (calls : List PlainCall). IsStrictlyIncreasing (map (λ call. call.asked) calls) → IfNone c.place_of.result ((place : ℕ) (call : PlainCall) → slice_get calls place ≡ Some call → call.asked ≡ c.args.at → ⊥))
    c.self.view_is c.place_of.ensures.none
