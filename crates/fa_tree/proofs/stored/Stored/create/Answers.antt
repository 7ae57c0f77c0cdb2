use Rattle.std.proofs.Common.{sym, ◌∙◌}
use Rattle.fa_tree.specs.Making.{new_regular}
use Rattle.fa_tree.proofs.ChangedLemmas.{created_found}
use Rattle.fa_tree.proofs.stored.Stored.create.Goals as goal

pub returns-in-Some-clause-created : goal.returns-in-Some-clause-created
returns-in-Some-clause-created c =
    c.empty.ensures
    ∙ created_found c.args.self.now c.args.asked c.args.directory c.args.name.now c.args.truncates (new_regular c.args.mode c.args.umask) c.in-Some.file (sym c.requires.found ∙ c.in-Some.is)
