use Rattle.fa_tree.proofs.CountLemmas.{counts_gone}
use Rattle.fa_tree.proofs.FileLemmas.{files_removed}
use Rattle.fa_tree.proofs.files.Files.remove.Goals as goal

pub returns : goal.returns
returns c = record {
  files = files_removed c.args.self.now.by_id.entries c.swap_remove.new.self.entries c.args.id c.swap_remove.ensures.updates.0;
  counts = counts_gone c.args.self.now.by_id.entries c.swap_remove.new.self.entries c.args.id c.swap_remove.ensures.updates.0;
}
