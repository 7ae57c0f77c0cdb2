use Rattle.std.proofs.Common.{◌≡◌, length}
use Rattle.fa_search.specs.parts.Settling.{EachLeadsTo}
use Rattle.fa_search.proofs.coming.orders_of.Given as goal

abbrev pub invariant-loop-one : goal.invariant-loop-one
invariant-loop-one l = EachLeadsTo l.common l.left l.orders.items × (length l.orders.items ≡ l.one-index)
