use Rattle.fa_tree.specs.parts.FileParts.{files_shown}
use Rattle.fa_tree.proofs.ParentLemmas.{names_stay}
use Rattle.fa_tree.proofs.stored.Stored.open.Goals as goal

pub invariant_of-self : goal.invariant_of-self
invariant_of-self c =
    rw (names_stay c.open.result c.self.inside.names c.open.new.self c.args.asked c.args.directory c.open.ensures.opened c.open.ensures.unchanged) c.self.invariant
