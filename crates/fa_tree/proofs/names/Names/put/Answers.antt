use Rattle.std.proofs.Common.{◌∷◌, [], ap, ◌∙◌, arith}
use Rattle.fa_tree.specs.Edits.Edit.{Added, Removed}
use Rattle.fa_tree.specs.parts.NameParts.{edited}
use Rattle.fa_tree.proofs.BirthLemmas.{births_put}
use Rattle.fa_tree.proofs.ViewLemmas.{shown_put}
use Rattle.fa_tree.proofs.names.Names.put.Goals as goal

pub invariant_of-self : goal.invariant_of-self
invariant_of-self c =
    births_put c.insert.result c.self.inside.slots.table.entries c.insert.new.self.table.entries c.self.inside.slots.members.table.entries c.insert.new.self.members.table.entries
    (c.args.directory, c.args.name.now) c.args.file c.len-born.result c.self.inside.openings c.len-born.ensures
    c.insert.ensures.put c.insert.ensures.places c.insert.ensures.kept c.insert.ensures.unchanged c.self.invariant

pub invariant_of-self-2 : goal.invariant_of-self-2
invariant_of-self-2 c =
    births_put c.insert.result c.self.inside.slots.table.entries c.insert.new.self.table.entries c.self.inside.slots.members.table.entries c.insert.new.self.members.table.entries
    (c.args.directory, c.args.name.now) c.args.file c.len-born.result c.self.inside.openings c.len-born.ensures
    c.insert.ensures.put c.insert.ensures.places c.insert.ensures.kept c.insert.ensures.unchanged c.self.invariant

pub returns-clause-put : goal.returns-clause-put
returns-clause-put c =
    shown_put c.self.inside.slots.table.entries c.insert.new.self.table.entries c.args.directory c.args.name.now c.args.file c.len-born.result c.in_ok-insert.ensures.put
    c.self.inside.openings (omega arith)
    ∙ ap (edited (Removed c.args.directory c.args.name.now ∷ Added c.args.directory c.args.name.now c.args.file ∷ [])) c.self.view_is
