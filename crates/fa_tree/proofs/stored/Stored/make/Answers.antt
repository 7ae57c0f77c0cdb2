use Rattle.std.proofs.Common.{ap, sym, subst, ◌∙◌, arith}
use Rattle.fa_tree.specs.declared.files.Counts.{Counts}
use Rattle.fa_tree.specs.parts.CountParts.{counts_of, nothing_counted, one_link_more, AreCounted}
use Rattle.fa_tree.specs.parts.FileParts.{file_shown, files_shown}
use Rattle.fa_tree.specs.parts.NameParts.{NamesShown}
use Rattle.fa_tree.specs.parts.ParentParts.{parent_noted}
use Rattle.fa_tree.specs.parts.StoredView.{stored_shown}
use Rattle.fa_tree.proofs.CountLemmas.{counts_back, few_inside, known_shown, made_counted, none_shown, part_kept, same_counted}
use Rattle.fa_tree.proofs.ParentLemmas.{others_of, made_parents, made_notes, refused_parents, refused_notes}
use Rattle.fa_tree.proofs.StoredLemmas.{still_made, still_new, still_comes, made_tree, files_back}
use Rattle.fa_tree.proofs.stored.Stored.make.Goals as goal

pub invariant_of-self : goal.invariant_of-self
invariant_of-self c = rw (c.in_err-insert.ensures.unchanged) c.self.invariant

pub invariant_of-self-in-Err : goal.invariant_of-self-in-Err
invariant_of-self-in-Err c =
    let none = still_new (stored_shown c.self.inside) c.args.self.now c.args.id c.self.view_is c.requires.new in
    let back = files_back (files_shown c.self.inside.files.by_id.entries) (files_shown c.insert.new.self.by_id.entries) (files_shown c.remove.new.self.by_id.entries) c.args.id (file_shown c.args.file) none c.in_ok-insert.ensures.inserted c.remove.ensures.files in
    rw (c.in-Err.ensures.unchanged, back) (
      c.self.invariant.0,
      c.self.invariant.1,
      c.self.invariant.2,
      same_counted c.self.inside.names.names (counts_of c.self.inside.files.by_id.entries) (counts_of c.remove.new.self.by_id.entries)
          (counts_back _ (counts_of c.insert.new.self.by_id.entries) _ c.args.id (one_link_more nothing_counted) (none_shown c.self.inside.files.by_id.entries c.args.id none) c.in_ok-insert.ensures.counts c.remove.ensures.counts) c.self.invariant.3,
    )

pub returns-in-Err-clause-unchanged : goal.returns-in-Err-clause-unchanged
returns-in-Err-clause-unchanged c =
    let none = still_new (stored_shown c.self.inside) c.args.self.now c.args.id c.self.view_is c.requires.new in
    let back = files_back (files_shown c.self.inside.files.by_id.entries) (files_shown c.insert.new.self.by_id.entries) (files_shown c.remove.new.self.by_id.entries) c.args.id (file_shown c.args.file) none c.in_ok-insert.ensures.inserted c.remove.ensures.files in
    rw (back) c.self.view_is

pub invariant_of-self-in-Ok-add : goal.invariant_of-self-in-Ok-add
invariant_of-self-in-Ok-add c =
    let may = still_made (stored_shown c.self.inside) c.args.self.now c.args.directory c.args.name.now c.self.view_is c.requires.free in
    let none = still_new (stored_shown c.self.inside) c.args.self.now c.args.id c.self.view_is c.requires.new in
    let comes = still_comes (stored_shown c.self.inside) c.args.self.now c.args.id c.self.view_is c.requires.made in
    let table = c.self.inside.files.by_id.entries in
    rw (c.add_inside.ensures.files) (
      made_tree c.self.inside.names c.add-2.new.self (files_shown table) (files_shown c.insert.new.self.by_id.entries) c.args.directory c.args.name.now c.args.id (file_shown c.args.file)
          c.self.invariant.0 may none comes c.in-Ok-add.ensures.added c.in_ok-insert.ensures.inserted,
      rw (c.in-Ok-add.ensures.added, c.in_ok-insert.ensures.inserted)
          (made_parents (stored_shown c.self.inside).store c.args.id c.args.directory c.args.name.now (file_shown c.args.file)
          (parent_noted c.self.inside.parents.table.entries) (parent_noted c.add.new.self.table.entries)
          c.self.invariant.0 none comes c.in-Ok.ensures.noted c.in-Ok.ensures.others c.self.invariant.1),
      rw (c.in-Ok-add.ensures.added, c.in_ok-insert.ensures.inserted)
          (made_notes (stored_shown c.self.inside).store c.args.id c.args.directory c.args.name.now (file_shown c.args.file)
          (parent_noted c.self.inside.parents.table.entries) (parent_noted c.add.new.self.table.entries) none comes may.1
          c.in-Ok.ensures.noted c.in-Ok.ensures.others (λ kind. ap (λ table. parent_noted table c.args.id) (c.in-Ok.ensures.other_kinds kind)) c.self.invariant.2),
      subst (λ (n : NamesShown). AreCounted n.names (counts_of c.add_inside.new.self.by_id.entries)) (sym c.in-Ok-add.ensures.added)
          (made_counted (counts_of table) (counts_of c.insert.new.self.by_id.entries) (counts_of c.add_inside.new.self.by_id.entries) c.args.directory c.args.id
          (none_shown table c.args.id none) c.in_ok-insert.ensures.counts c.add_inside.ensures.counts c.self.inside.names.names c.args.name.now may.1 c.self.invariant.3),
    )

pub add_inside-requires-clause-known : goal.add_inside-requires-clause-known
add_inside-requires-clause-known c =
    let may = still_made (stored_shown c.self.inside) c.args.self.now c.args.directory c.args.name.now c.self.view_is c.requires.free in
    c.in_ok-insert.ensures.kept c.args.directory (known_shown c.self.inside.files.by_id.entries c.args.directory may.0.0.0 may.0.0.1)

pub add_inside-requires-clause-few : goal.add_inside-requires-clause-few
add_inside-requires-clause-few c =
    let none = still_new (stored_shown c.self.inside) c.args.self.now c.args.id c.self.view_is c.requires.new in
    let old = counts_of c.self.inside.files.by_id.entries in
    let few = few_inside c.self.inside.names.names old c.self.invariant.3 c.args.directory in
    let same = part_kept old (counts_of c.insert.new.self.by_id.entries) c.args.id (one_link_more nothing_counted) c.in_ok-insert.ensures.counts (λ n. n.inside)
    (sym (ap (λ (n : Counts). n.inside) (none_shown c.self.inside.files.by_id.entries c.args.id none))) c.args.directory in
    omega (arith, few, same, c.places.ensures.most, c.places.ensures.few)

pub invariant_of-self-in-Err-add : goal.invariant_of-self-in-Err-add
invariant_of-self-in-Err-add c =
    let none = still_new (stored_shown c.self.inside) c.args.self.now c.args.id c.self.view_is c.requires.new in
    let back = files_back (files_shown c.self.inside.files.by_id.entries) (files_shown c.insert.new.self.by_id.entries) (files_shown c.remove-in-Err-add-2.new.self.by_id.entries) c.args.id (file_shown c.args.file) none c.in_ok-insert.ensures.inserted c.remove-in-Err-add-2.ensures.files in
    rw (c.in-Err-add.ensures.unchanged, back) (
      c.self.invariant.0,
      refused_parents (stored_shown c.self.inside).store c.args.id
          (parent_noted c.self.inside.parents.table.entries) (parent_noted c.remove-in-Err-add.new.self.table.entries) none
          (λ of apart. others_of c.args.id _ (parent_noted c.add.new.self.table.entries) (parent_noted c.remove-in-Err-add.new.self.table.entries) c.remove-in-Err-add.ensures of apart ∙ c.in-Ok.ensures.others of apart)
          c.self.invariant.1,
      refused_notes (stored_shown c.self.inside).store c.args.id
          (parent_noted c.self.inside.parents.table.entries) (parent_noted c.add.new.self.table.entries) (parent_noted c.remove-in-Err-add.new.self.table.entries)
          c.in-Ok.ensures.others c.remove-in-Err-add.ensures c.self.invariant.2,
      same_counted c.self.inside.names.names (counts_of c.self.inside.files.by_id.entries) (counts_of c.remove-in-Err-add-2.new.self.by_id.entries)
          (counts_back _ (counts_of c.insert.new.self.by_id.entries) _ c.args.id (one_link_more nothing_counted) (none_shown c.self.inside.files.by_id.entries c.args.id none) c.in_ok-insert.ensures.counts c.remove-in-Err-add-2.ensures.counts) c.self.invariant.3,
    )

pub returns-in-Err-add-clause-unchanged : goal.returns-in-Err-add-clause-unchanged
returns-in-Err-add-clause-unchanged c =
    let none = still_new (stored_shown c.self.inside) c.args.self.now c.args.id c.self.view_is c.requires.new in
    let back = files_back (files_shown c.self.inside.files.by_id.entries) (files_shown c.insert.new.self.by_id.entries) (files_shown c.remove-in-Err-add-2.new.self.by_id.entries) c.args.id (file_shown c.args.file) none c.in_ok-insert.ensures.inserted c.remove-in-Err-add-2.ensures.files in
    rw (c.in-Err-add.ensures.unchanged, back) c.self.view_is
