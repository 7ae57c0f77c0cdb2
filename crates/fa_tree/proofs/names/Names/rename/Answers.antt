use Rattle.std.proofs.Common.{◌∷◌, [], refl, ap, subst, ◌∙◌}
use Rattle.std.specs.FinMap.{get}
use Rattle.fa_tree.specs.Edits.Edit.{Removed}
use Rattle.fa_tree.specs.parts.NameParts.{edited, StaysThere}
use Rattle.fa_tree.proofs.ViewLemmas.{shown_stays}
use Rattle.fa_tree.proofs.EditedLemmas.{edited_moved}
use Rattle.fa_tree.proofs.names.Names.rename.Goals as goal

pub returns-clause-renamed : goal.returns-clause-renamed
returns-clause-renamed c =
    let stays = subst StaysThere c.self.view_is (shown_stays c.self.inside.slots.table.entries c.self.inside.openings) in
    c.remove.ensures.gone
    ∙ (ap (edited (Removed c.args.old_directory c.args.old_name.now ∷ [])) c.in_ok-put.ensures.put
    ∙ edited_moved c.args.self.now stays c.args.old_directory c.args.old_name.now c.args.new_directory c.args.new_name.now c.args.file c.requires.there
    (get c.args.self.now.names (c.args.new_directory, c.args.new_name.now)) refl c.requires.apart)
