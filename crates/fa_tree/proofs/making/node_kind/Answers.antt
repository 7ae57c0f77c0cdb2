use Rattle.fa_tree.proofs.MakingLemmas.{none_is_regular}
use Rattle.fa_tree.proofs.making.node_kind.Goals as goal

pub returns-in-None : goal.returns-in-None
returns-in-None c = none_is_regular c.args.mode c.in-None.ensures
