use Rattle.fa_tree.proofs.NamedLemmas.{names_keep_files}
use Rattle.fa_tree.proofs.laws.names_keep_files.Goals as goal

pub returns : goal.returns
returns c = names_keep_files
