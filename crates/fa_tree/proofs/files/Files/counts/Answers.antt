use Rattle.std.proofs.Common.{sym}
use Rattle.fa_tree.proofs.CountLemmas.{counts_there, counts_none}
use Rattle.fa_tree.proofs.files.Files.counts.Goals as goal

pub returns-in-Some : goal.returns-in-Some
returns-in-Some c = counts_there c.args.self.now.by_id.entries c.args.id c.in-Some.entry.now c.in-Some.ensures.value

pub returns-in-None : goal.returns-in-None
returns-in-None c = sym (counts_none c.args.self.now.by_id.entries c.args.id (sym c.in-None.ensures.value))
