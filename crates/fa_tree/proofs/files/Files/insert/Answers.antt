use Rattle.fa_tree.specs.parts.CountParts.{nothing_counted, one_link_more}
use Rattle.fa_tree.proofs.CountLemmas.{counts_written}
use Rattle.fa_tree.proofs.FileLemmas.{files_put}
use Rattle.fa_tree.proofs.files.Files.insert.Goals as goal

pub returns-clause-inserted : goal.returns-clause-inserted
returns-clause-inserted c =
    files_put c.args.self.now.by_id.entries c.insert.new.self.entries c.args.id (record { file = c.args.file; counts = one_link_more nothing_counted }) c.in_ok-insert.ensures.updates.0

pub returns-clause-counts : goal.returns-clause-counts
returns-clause-counts c =
    counts_written c.args.self.now.by_id.entries c.insert.new.self.entries c.args.id (record { file = c.args.file; counts = one_link_more nothing_counted }) c.in_ok-insert.ensures.updates.0
