use Rattle.std.proofs.Common.{refl}
use Rattle.fa_tree_text.proofs.AdditionLemmas.{no_file_no_name, no_parent_no_name, refused_no_name, refusal_refuses}
use Rattle.fa_tree_text.proofs.FolderLemmas.{found_linked, parent_linked}
use Rattle.fa_tree_text.proofs.additions.add_name.Goals as goal

pub returns-in_default-clause-added : goal.returns-in_default-clause-added
returns-in_default-clause-added c = (no_file_no_name c.args.tree.now c.args.name.now.path.now c.args.name.now.older.now (rw c.in_default.is at c.in_ok-file.ensures.none), refl)

pub returns-in_default-2-clause-added : goal.returns-in_default-2-clause-added
returns-in_default-2-clause-added c = (no_parent_no_name c.args.tree.now c.args.name.now.path.now c.args.name.now.older.now (rw c.in_default-2.is at c.in_ok-parent.ensures.none), refl)

pub returns-in-Ok-clause-kept : goal.returns-in-Ok-clause-kept
returns-in-Ok-clause-kept c =
    c.keep_parent.ensures c.add_link.new.self.store c.deref.result.now
    (found_linked c.args.tree.now c.add_link.new.self c.in-Some-2.parent c.deref.result.now c.in-Some.file c.args.folders.now c.in-Ok.ensures.allowed c.in-Ok.ensures.added c.requires)
    (parent_linked c.args.tree.now c.add_link.new.self c.in-Some-2.parent c.deref.result.now c.in-Some.file c.args.name.now.path.now c.in-Ok.ensures.allowed c.in-Ok.ensures.added
    (rw c.deref.ensures.value (rw c.in-Some-2.is at c.in_ok-parent.ensures.found)))

pub returns-in-Err-Refused-clause-added : goal.returns-in-Err-Refused-clause-added
returns-in-Err-Refused-clause-added c = (
  refused_no_name c.args.tree.now c.args.name.now.path.now c.args.name.now.older.now c.in-Some-2.parent c.in-Some.file c.deref.result.now
      (rw c.deref.ensures.value (rw c.in-Some-2.is at c.in_ok-parent.ensures.found)) (rw c.in-Some.is at c.in_ok-file.ensures.found)
      (refusal_refuses c.in-Err-Refused.field-0 c.in-Err-Refused.field-0-0 _ _ c.in-Err-Refused.field-0-is c.in-Err-Refused.ensures.refused),
  c.in-Err-Refused.ensures.unchanged,
)
