use Rattle.std.proofs.Common.{sym, ◌∙◌}
use Rattle.fa_tree.proofs.names.Names.is_same.Goals as goal

pub returns-then-is_same : goal.returns-then-is_same
returns-then-is_same c = λ is.
    let names = c.is_same.ensures c.if-is_same.true in
    let handles = c.is_same-then-is_same.ensures is in
    sym c.self.view_is ∙ (λ i. record { names = names i; handles = handles i }) ∙ c.other.view_is
