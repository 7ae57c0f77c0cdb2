use Rattle.std.proofs.Common.{sym, ◌∙◌}
use Rattle.fa_tree.proofs.FileLemmas.{count_files}
use Rattle.fa_tree.proofs.files.Files.len.Goals as goal

pub returns : goal.returns
returns c = c.len.ensures.len ∙ sym (count_files c.args.self.now.by_id.entries c.len.ensures.unique)
