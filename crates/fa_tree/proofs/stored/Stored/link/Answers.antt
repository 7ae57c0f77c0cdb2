use Rattle.std.proofs.Common.{sym, subst, arith}
use Rattle.fa_tree.specs.parts.CountParts.{counts_of, AreCounted}
use Rattle.fa_tree.specs.parts.FileParts.{files_shown}
use Rattle.fa_tree.specs.parts.NameParts.{NamesShown}
use Rattle.fa_tree.specs.parts.ParentParts.{parent_noted}
use Rattle.fa_tree.specs.parts.StoredView.{stored_shown}
use Rattle.fa_tree.proofs.CountLemmas.{known_shown}
use Rattle.fa_tree.proofs.ParentLemmas.{parents_named_or_not, notes_named_or_not}
use Rattle.fa_tree.proofs.StoredLemmas.{still_made, still_there, still_other, named_tree}
use Rattle.fa_tree.proofs.stored.Stored.link.Goals as goal

pub invariant_of-self : goal.invariant_of-self
invariant_of-self c = rw (c.in_err-add.ensures.unchanged) c.self.invariant

pub count_added-requires-clause-directory : goal.count_added-requires-clause-directory
count_added-requires-clause-directory c =
    let may = still_made (stored_shown c.self.inside) c.args.self.now c.args.directory c.args.name.now c.self.view_is c.requires.free in
    known_shown c.self.inside.files.by_id.entries c.args.directory may.0.0.0 may.0.0.1

pub count_added-requires-clause-file : goal.count_added-requires-clause-file
count_added-requires-clause-file c =
    let there = still_there (stored_shown c.self.inside) c.args.self.now c.args.file c.self.view_is c.requires.there in
    known_shown c.self.inside.files.by_id.entries c.args.file there.0 there.1

pub count_added-requires-clause-counted : goal.count_added-requires-clause-counted
count_added-requires-clause-counted c =
    let may = still_made (stored_shown c.self.inside) c.args.self.now c.args.directory c.args.name.now c.self.view_is c.requires.free in
    (record { names = c.self.inside.names.names; name = c.args.name.now; at = may.1; counted = c.self.invariant.3 }, omega (arith, c.places.ensures.most, c.places.ensures.few))

pub invariant_of-self-2 : goal.invariant_of-self-2
invariant_of-self-2 c =
    let table = c.self.inside.files.by_id.entries in
    let files = files_shown table in
    let may = still_made (stored_shown c.self.inside) c.args.self.now c.args.directory c.args.name.now c.self.view_is c.requires.free in
    let there = still_there (stored_shown c.self.inside) c.args.self.now c.args.file c.self.view_is c.requires.there in
    let other = still_other (stored_shown c.self.inside) c.args.self.now c.args.file c.self.view_is c.requires.other in
    rw (c.count_added.ensures.files) (
      named_tree c.self.inside.names c.add.new.self files c.args.directory c.args.name.now c.args.file c.self.invariant.0 may there other c.in_ok-add.ensures.added,
      parents_named_or_not c.add.result c.self.inside.names c.add.new.self files c.args.directory c.args.name.now c.args.file
          (parent_noted c.self.inside.parents.table.entries) other c.self.invariant.1 c.add.ensures.added c.add.ensures.unchanged,
      notes_named_or_not c.add.result c.self.inside.names c.add.new.self files c.args.directory c.args.name.now c.args.file
          (parent_noted c.self.inside.parents.table.entries) may.1 c.self.invariant.2 c.add.ensures.added c.add.ensures.unchanged,
      subst (λ (n : NamesShown). AreCounted n.names (counts_of c.count_added.new.self.by_id.entries)) (sym c.in_ok-add.ensures.added)
          (c.count_added.ensures.counted c.self.inside.names.names c.args.name.now may.1 c.self.invariant.3),
    )
