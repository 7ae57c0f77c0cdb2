use Rattle.std.proofs.Common.{ℕ, List, ap, subst}
use Rattle.fa_search.specs.parts.Configurations.{PlainConfiguration, IsOneLess}
use Rattle.fa_search.proofs.PlacedLemmas.{set_one_less}
use Rattle.fa_search.proofs.configuration.Configuration.forget.Goals as goal

pub returns-clause-without : goal.returns-clause-without
returns-clause-without c = (
  ap (λ (x : PlainConfiguration). x.tree) c.self.view_is,
  subst (λ (placed : List ℕ). IsOneLess placed c.args.asked c.remove.new.self.keys) (ap (λ (x : PlainConfiguration). x.placed) c.self.view_is)
      (set_one_less c.self.inside.placed c.remove.new.self c.args.asked c.remove.ensures.updates),
)
