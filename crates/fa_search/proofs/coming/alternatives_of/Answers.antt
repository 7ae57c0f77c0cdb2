use Rattle.std.proofs.Common.{List, subst}
use Rattle.fa_search.specs.parts.Configurations.{PlainConfiguration}
use Rattle.fa_search.specs.parts.Settling.{EachLeadsTo}
use Rattle.fa_search.proofs.coming.alternatives_of.Goals as goal

pub returns-clause-each : goal.returns-clause-each
returns-clause-each c =
    subst (λ (xs : List PlainConfiguration). EachLeadsTo c.args.common.now xs c.in_ok-orders.field-0.items) c.deref.ensures.value c.in_ok-orders.ensures.each
