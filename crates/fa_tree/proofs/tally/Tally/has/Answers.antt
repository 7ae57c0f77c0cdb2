use Rattle.std.proofs.Common.{◌∙◌}
use Rattle.fa_tree.proofs.TallyLemmas.{at_least_once}
use Rattle.fa_tree.proofs.tally.Tally.has.Goals as goal

pub returns : goal.returns
returns c = λ times are. at_least_once (times c.args.name.now) c.contains.result (c.contains.ensures ∙ are.listed c.args.name.now)
