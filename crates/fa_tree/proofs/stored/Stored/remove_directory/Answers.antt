use Rattle.std.proofs.Common.{◌≡◌, None, Some, sym, subst, ◌∙◌}
use Rattle.fa_tree.specs.parts.CountParts.{counts_of, AreCounted}
use Rattle.fa_tree.specs.parts.FileParts.{files_shown}
use Rattle.fa_tree.specs.parts.NameParts.{NamesShown}
use Rattle.fa_tree.specs.parts.ParentParts.{parent_noted}
use Rattle.fa_tree.specs.parts.PlaceLaws.{place_cmp_total, places_apart}
use Rattle.fa_tree.specs.parts.StoredView.{stored_shown}
use Rattle.fa_tree.proofs.EditedLemmas.{remove_none}
use Rattle.fa_tree.proofs.ParentLemmas.{gone_parents, gone_notes, without_parents, without_notes}
use Rattle.fa_tree.proofs.StoredChangeLemmas.{removed_tree}
use Rattle.fa_tree.proofs.stored.Stored.remove_directory.Goals as goal

pub count_removed-requires : goal.count_removed-requires
count_removed-requires c = record {
  names = c.self.inside.names.names;
  name = c.args.name.now;
  at = sym c.remove.ensures.file ∙ c.in-Some.is;
  counted = c.self.invariant.3;
}

pub invariant_of-self : goal.invariant_of-self
invariant_of-self c =
    let table = c.self.inside.files.by_id.entries in
    rw (c.count_removed.ensures.files) (
      removed_tree c.self.inside.names c.remove.new.self (files_shown table) c.args.directory c.args.name.now c.self.invariant.0 c.remove.ensures.gone,
      rw (c.remove.ensures.gone)
          (gone_parents (stored_shown c.self.inside).store (c.args.directory, c.args.name.now) c.in-Some.file
          (parent_noted c.self.inside.parents.table.entries) (parent_noted c.remove-in-Some.new.self.table.entries)
          c.self.invariant.0 (sym c.remove.ensures.file ∙ c.in-Some.is) c.remove-in-Some.ensures c.self.invariant.1),
      rw (c.remove.ensures.gone)
          (gone_notes (stored_shown c.self.inside).store (c.args.directory, c.args.name.now) c.in-Some.file
          (parent_noted c.self.inside.parents.table.entries) (parent_noted c.remove-in-Some.new.self.table.entries)
          (sym c.remove.ensures.file ∙ c.in-Some.is) c.remove-in-Some.ensures c.self.invariant.2),
      subst (λ (n : NamesShown). AreCounted n.names (counts_of c.count_removed.new.self.by_id.entries)) (sym c.remove.ensures.gone)
          (c.count_removed.ensures.counted c.self.inside.names.names c.args.name.now (sym c.remove.ensures.file ∙ c.in-Some.is) c.self.invariant.3),
    )

pub invariant_of-self-in-None : goal.invariant_of-self-in-None
invariant_of-self-in-None c =
    let table = c.self.inside.files.by_id.entries in (
      removed_tree c.self.inside.names c.remove.new.self (files_shown table) c.args.directory c.args.name.now c.self.invariant.0 c.remove.ensures.gone,
      rw (c.remove.ensures.gone)
          (without_parents (stored_shown c.self.inside).store (c.args.directory, c.args.name.now) (parent_noted c.self.inside.parents.table.entries) c.self.invariant.1),
      rw (c.remove.ensures.gone)
          (without_notes (stored_shown c.self.inside).store (c.args.directory, c.args.name.now) (parent_noted c.self.inside.parents.table.entries)
          (λ file directory at is. (let clash : None ≡ Some file = sym c.in-None.is ∙ c.remove.ensures.file ∙ at in cc)) c.self.invariant.2),
      subst (λ (n : NamesShown). AreCounted n.names (counts_of table)) (sym c.remove.ensures.gone)
          (subst (λ names. AreCounted names (counts_of table)) (sym (remove_none place_cmp_total places_apart c.self.inside.names.names (c.args.directory, c.args.name.now) (sym c.remove.ensures.file ∙ c.in-None.is))) c.self.invariant.3),
    )
