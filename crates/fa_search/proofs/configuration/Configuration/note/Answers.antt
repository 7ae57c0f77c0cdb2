use Rattle.std.proofs.Common.{ℕ, List, ap, subst}
use Rattle.fa_search.specs.parts.Configurations.{PlainConfiguration, IsOneMore}
use Rattle.fa_search.proofs.PlacedLemmas.{set_one_more}
use Rattle.fa_search.proofs.configuration.Configuration.note.Goals as goal

pub returns-clause-placed : goal.returns-clause-placed
returns-clause-placed c =
    subst (λ (placed : List ℕ). IsOneMore placed c.args.entry.at c.insert.new.self.keys) (ap (λ (x : PlainConfiguration). x.placed) c.self.view_is)
    (set_one_more c.self.inside.placed c.insert.new.self c.args.entry.at c.in_ok-insert.ensures.updates)
