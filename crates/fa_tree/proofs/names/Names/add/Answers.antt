use Rattle.std.proofs.Common.{◌∷◌, [], ap, subst, ◌∙◌, arith}
use Rattle.std.proofs.lemmas.Result.{on_ok_weaker}
use Rattle.fa_tree.specs.Edits.Edit.{Added, Removed}
use Rattle.fa_tree.specs.parts.NameParts.{edited, StaysThere}
use Rattle.fa_tree.proofs.BirthLemmas.{births_put}
use Rattle.fa_tree.proofs.EditedLemmas.{edited_put_free}
use Rattle.fa_tree.proofs.ViewLemmas.{shown_put, shown_stays}
use Rattle.fa_tree.proofs.names.Names.add.Goals as goal

pub invariant_of-self : goal.invariant_of-self
invariant_of-self c =
    births_put c.insert_free.result c.self.inside.slots.table.entries c.insert_free.new.self.table.entries c.self.inside.slots.members.table.entries c.insert_free.new.self.members.table.entries
    (c.args.directory, c.args.name.now) c.args.file c.len-born.result c.self.inside.openings c.len-born.ensures
    c.insert_free.ensures.put c.insert_free.ensures.places c.insert_free.ensures.kept c.insert_free.ensures.unchanged c.self.invariant

pub returns-clause-added : goal.returns-clause-added
returns-clause-added c =
    let stays = subst StaysThere c.self.view_is (shown_stays c.self.inside.slots.table.entries c.self.inside.openings) in
    on_ok_weaker c.insert_free.result (λ put.
    shown_put c.self.inside.slots.table.entries c.insert_free.new.self.table.entries c.args.directory c.args.name.now c.args.file c.len-born.result put
    c.self.inside.openings (omega arith)
    ∙ ap (edited (Removed c.args.directory c.args.name.now ∷ Added c.args.directory c.args.name.now c.args.file ∷ [])) c.self.view_is
    ∙ edited_put_free c.args.self.now stays c.args.directory c.args.name.now c.args.file c.requires)
    c.insert_free.ensures.put
