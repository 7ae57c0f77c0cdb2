use Rattle.std.proofs.Common.{◌∷◌, [], ap, ◌∙◌, inl, arith}
use Rattle.fa_tree.specs.Edits.Edit.{Removed}
use Rattle.fa_tree.specs.parts.NameParts.{edited}
use Rattle.fa_tree.proofs.BirthLemmas.{gone_since, opened_kept}
use Rattle.fa_tree.proofs.ViewLemmas.{shown_removed, within_removed}
use Rattle.fa_tree.proofs.names.Names.remove.Goals as goal

pub invariant_of-self : goal.invariant_of-self
invariant_of-self c =
    let old = c.self.inside.slots.table.entries in
    let new = c.remove.new.self.table.entries in (
      within_removed _ old new (c.args.directory, c.args.name.now) c.len-at.result c.len-at.ensures c.remove.ensures.gone c.self.invariant.0,
      opened_kept old new c.self.inside.slots.members.table.entries c.remove.new.self.members.table.entries (c.args.directory, c.args.name.now) _ (inl c.remove.ensures.places) c.remove.ensures.gone c.self.inside.openings
          (λ at less slot. gone_since at c.len-at.result slot) c.self.invariant.1,
    )

pub returns-clause-gone : goal.returns-clause-gone
returns-clause-gone c =
    shown_removed c.self.inside.slots.table.entries c.remove.new.self.table.entries c.args.directory c.args.name.now c.len-at.result c.remove.ensures.gone
    c.self.inside.openings (omega arith)
    ∙ ap (edited (Removed c.args.directory c.args.name.now ∷ [])) c.self.view_is
