use Rattle.std.proofs.Common.{ap}
use Rattle.fa_search.specs.parts.Configurations.{PlainConfiguration}
use Rattle.fa_search.proofs.PlacedLemmas.{told_by_set}
use Rattle.fa_search.proofs.configuration.Configuration.has.Goals as goal

pub returns : goal.returns
returns c = told_by_set c.args.self.now.placed c.self.inside.placed c.args.asked c.contains.result (ap (λ (x : PlainConfiguration). x.placed) c.self.view_is) c.contains.ensures
