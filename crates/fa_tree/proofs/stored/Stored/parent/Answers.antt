use Rattle.fa_tree.specs.parts.ParentParts.{parent_noted}
use Rattle.fa_tree.specs.parts.StoredView.{stored_shown}
use Rattle.fa_tree.proofs.ParentLemmas.{parent_there, parent_none}
use Rattle.fa_tree.proofs.stored.Stored.parent.Goals as goal

pub returns-clause-there : goal.returns-clause-there
returns-clause-there c =
    parent_there (stored_shown c.self.inside) c.args.self.now (parent_noted c.self.inside.parents.table.entries) c.args.file c.of.result
    c.self.view_is c.self.invariant.2 c.of.ensures

pub returns-clause-none : goal.returns-clause-none
returns-clause-none c =
    parent_none (stored_shown c.self.inside) c.args.self.now (parent_noted c.self.inside.parents.table.entries) c.args.file c.of.result
    c.self.view_is c.self.invariant.1 c.requires c.of.ensures
