use Rattle.std.proofs.Common.{sym, subst, ◌∙◌}
use Rattle.fa_tree.specs.parts.CountParts.{counts_of, AreCounted}
use Rattle.fa_tree.specs.parts.FileParts.{files_shown}
use Rattle.fa_tree.specs.parts.NameParts.{NamesShown}
use Rattle.fa_tree.specs.parts.ParentParts.{parent_noted}
use Rattle.fa_tree.specs.parts.PlaceLaws.{place_cmp_total, places_apart}
use Rattle.fa_tree.specs.parts.StoredView.{stored_shown}
use Rattle.fa_tree.proofs.EditedLemmas.{remove_none}
use Rattle.fa_tree.proofs.ParentLemmas.{without_parents, unlinked_notes}
use Rattle.fa_tree.proofs.StoredChangeLemmas.{removed_tree, still_unlinked}
use Rattle.fa_tree.proofs.stored.Stored.remove.Goals as goal

pub count_removed-requires : goal.count_removed-requires
count_removed-requires c = record {
  names = c.self.inside.names.names;
  name = c.args.name.now;
  at = sym c.remove.ensures.file ∙ c.in-Some.is;
  counted = c.self.invariant.3;
}

pub invariant_of-self : goal.invariant_of-self
invariant_of-self c =
    let table = c.self.inside.files.by_id.entries in
    let may = still_unlinked (stored_shown c.self.inside) c.args.self.now c.args.directory c.args.name.now c.self.view_is c.requires in
    rw (c.count_removed.ensures.files) (
      removed_tree c.self.inside.names c.remove.new.self (files_shown table) c.args.directory c.args.name.now c.self.invariant.0 c.remove.ensures.gone,
      rw (c.remove.ensures.gone)
          (without_parents (stored_shown c.self.inside).store (c.args.directory, c.args.name.now) (parent_noted c.self.inside.parents.table.entries) c.self.invariant.1),
      rw (c.remove.ensures.gone)
          (unlinked_notes (stored_shown c.self.inside).store c.args.directory c.args.name.now (parent_noted c.self.inside.parents.table.entries) may c.self.invariant.2),
      subst (λ (n : NamesShown). AreCounted n.names (counts_of c.count_removed.new.self.by_id.entries)) (sym c.remove.ensures.gone)
          (c.count_removed.ensures.counted c.self.inside.names.names c.args.name.now (sym c.remove.ensures.file ∙ c.in-Some.is) c.self.invariant.3),
    )

pub invariant_of-self-in-None : goal.invariant_of-self-in-None
invariant_of-self-in-None c =
    let table = c.self.inside.files.by_id.entries in
    let may = still_unlinked (stored_shown c.self.inside) c.args.self.now c.args.directory c.args.name.now c.self.view_is c.requires in (
      removed_tree c.self.inside.names c.remove.new.self (files_shown table) c.args.directory c.args.name.now c.self.invariant.0 c.remove.ensures.gone,
      rw (c.remove.ensures.gone)
          (without_parents (stored_shown c.self.inside).store (c.args.directory, c.args.name.now) (parent_noted c.self.inside.parents.table.entries) c.self.invariant.1),
      rw (c.remove.ensures.gone)
          (unlinked_notes (stored_shown c.self.inside).store c.args.directory c.args.name.now (parent_noted c.self.inside.parents.table.entries) may c.self.invariant.2),
      subst (λ (n : NamesShown). AreCounted n.names (counts_of table)) (sym c.remove.ensures.gone)
          (subst (λ names. AreCounted names (counts_of table)) (sym (remove_none place_cmp_total places_apart c.self.inside.names.names (c.args.directory, c.args.name.now) (sym c.remove.ensures.file ∙ c.in-None.is))) c.self.invariant.3),
    )
