use Rattle.std.proofs.Common.{◌≡◌, ◌≢◌, Some, sym, ap, subst, refl, ◌∙◌, arith}
use Rattle.std.specs.FinMap.{get}
use Rattle.fa_tree.specs.declared.stored.Stored.TheInside.{Inside}
use Rattle.fa_tree.specs.Edits.{names_after}
use Rattle.fa_tree.specs.Renaming.{moved}
use Rattle.fa_tree.specs.parts.CountParts.{counts_of, AreCounted}
use Rattle.fa_tree.specs.parts.FileParts.{files_shown}
use Rattle.fa_tree.specs.parts.NameParts.{NamesShown}
use Rattle.fa_tree.specs.parts.ParentParts.{parent_noted}
use Rattle.fa_tree.specs.parts.StoredView.{stored_shown}
use Rattle.fa_tree.proofs.CountLemmas.{known_shown}
use Rattle.fa_tree.proofs.ParentLemmas.{AreGone, moved_parents, moved_notes}
use Rattle.fa_tree.proofs.StoredChangeLemmas.{still_renamed, renamed_or_not, found_same, found_apart, still_unmoved}
use Rattle.fa_tree.proofs.stored.Stored.rename.Goals as goal
use Rattle.fa_tree.proofs.stored.Stored.rename.Goals.{in-Some-taken, in_default}

pub invariant_of-self : goal.invariant_of-self
invariant_of-self c = rw (c.in_err-rename-in-Some-2.ensures.unchanged) c.self.invariant

pub invariant_of-self-in-Some-2 : goal.invariant_of-self-in-Some-2
invariant_of-self-in-Some-2 c =
    let n = c.self.inside.names in
    let table = c.self.inside.files.by_id.entries in
    let counts = counts_of c.count_moved.new.self.by_id.entries in
    let file = c.in-Some.file in
    let old = parent_noted c.self.inside.parents.table.entries in
    let between = parent_noted c.match-taken.self-inside.parents.table.entries in
    let may = still_renamed (stored_shown c.self.inside) c.args.self.now c.args.old_directory c.args.old_name.now c.args.new_directory c.args.new_name.now c.self.view_is c.requires in
    let there = sym c.get.ensures ∙ c.in-Some.is in
    let names : c.match-taken.self-inside.names ≡ c.rename.new.self =
    elim c.match-taken.branch [ in-Some-taken w ↦ ap (λ (t : Inside). t.names) w.self-inside-is | in_default w ↦ ap (λ (t : Inside). t.names) w.self-inside-is ] in
    let files : c.match-taken.self-inside.files ≡ c.count_moved.new.self =
    elim c.match-taken.branch [ in-Some-taken w ↦ ap (λ (t : Inside). t.files) w.self-inside-is | in_default w ↦ ap (λ (t : Inside). t.files) w.self-inside-is ] in
    let gone : AreGone (get n.names (c.args.new_directory, c.args.new_name.now)) old between =
    elim c.match-taken.branch [
      | in-Some-taken w ↦ subst (λ found. AreGone found old between) (sym w.in-Some-taken.is ∙ c.get-taken.ensures) (rw (w.self-inside-is) w.remove.ensures)
      | in_default w ↦ subst (λ found. AreGone found old between) (sym w.in_default.is ∙ c.get-taken.ensures) (rw (w.self-inside-is) (λ of. refl))
    ] in
    let apart : get n.names (c.args.new_directory, c.args.new_name.now) ≢ Some file =
    λ same. found_apart c.get-taken.result file (sym c.eq.ensures ∙ c.if-eq.false) (c.get-taken.ensures ∙ same) in
    rw (names, files, c.count_moved.ensures.files) (
      renamed_or_not c.rename.result n c.rename.new.self (files_shown table) c.args.old_directory c.args.old_name.now c.args.new_directory c.args.new_name.now file
          c.self.invariant.0 may there c.rename.ensures.renamed c.rename.ensures.unchanged,
      rw (c.in_ok-rename-in-Some-2.ensures.renamed)
          (moved_parents (stored_shown c.self.inside).store c.args.old_directory c.args.old_name.now c.args.new_directory c.args.new_name.now file c.self.invariant.0 there
          old between (parent_noted c.set.new.self.table.entries) c.self.invariant.1 c.set.ensures
          (get n.names (c.args.new_directory, c.args.new_name.now)) refl
          apart gone),
      rw (c.in_ok-rename-in-Some-2.ensures.renamed)
          (moved_notes (stored_shown c.self.inside).store c.args.old_directory c.args.old_name.now c.args.new_directory c.args.new_name.now file there
          old between (parent_noted c.set.new.self.table.entries) c.self.invariant.2 (get n.names (c.args.new_directory, c.args.new_name.now)) c.set.ensures refl apart gone),
      subst (λ (m : NamesShown). AreCounted m.names counts) (sym c.in_ok-rename-in-Some-2.ensures.renamed)
          (subst (λ found. AreCounted (names_after (moved c.args.old_directory c.args.old_name.now c.args.new_directory c.args.new_name.now file found) n.names) counts) c.get-taken.ensures
          (c.count_moved.ensures.counted n.names c.args.old_name.now c.args.new_name.now there (sym c.get-taken.ensures)
          (found_apart c.get-taken.result file (sym c.eq.ensures ∙ c.if-eq.false)) c.self.invariant.3)),
    )

pub count_moved-requires-clause-directory : goal.count_moved-requires-clause-directory
count_moved-requires-clause-directory c =
    let may = still_renamed (stored_shown c.self.inside) c.args.self.now c.args.old_directory c.args.old_name.now c.args.new_directory c.args.new_name.now c.self.view_is c.requires in
    known_shown c.self.inside.files.by_id.entries c.args.new_directory may.to.0.0 may.to.0.1

pub count_moved-requires-clause-counted : goal.count_moved-requires-clause-counted
count_moved-requires-clause-counted c = (
  record {
    names = c.self.inside.names.names;
    old_name = c.args.old_name.now;
    new_name = c.args.new_name.now;
    there = sym c.get.ensures ∙ c.in-Some.is;
    at = sym c.get-taken.ensures;
    apart = found_apart c.get-taken.result c.in-Some.file (sym c.eq.ensures ∙ c.if-eq.false);
    counted = c.self.invariant.3;
  },
  omega (arith, c.places.ensures.most, c.places.ensures.few),
)

pub returns-in-Some-clause-renamed : goal.returns-in-Some-clause-renamed
returns-in-Some-clause-renamed c =
    let taken = found_same c.get-taken.result c.in-Some.file (sym c.eq.ensures ∙ c.if-eq.true) in
    still_unmoved (stored_shown c.self.inside) c.args.self.now c.args.old_directory c.args.old_name.now c.args.new_directory c.args.new_name.now c.in-Some.file c.self.view_is
    (sym c.get.ensures ∙ c.in-Some.is) (sym c.get-taken.ensures ∙ taken)
