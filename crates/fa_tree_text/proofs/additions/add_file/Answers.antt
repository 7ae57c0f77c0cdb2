use Rattle.std.proofs.Common.{refl}
use Rattle.fa_tree.specs.State.{root}
use Rattle.fa_tree_text.specs.parts.Ways.{Reaches}
use Rattle.fa_tree_text.proofs.AdditionLemmas.{no_parent_no_file, refused_no_file, refusal_refuses}
use Rattle.fa_tree_text.proofs.FolderLemmas.{found_added, parent_added, file_added}
use Rattle.fa_tree_text.proofs.additions.add_file.Goals as goal

pub returns-in_default-clause-added : goal.returns-in_default-clause-added
returns-in_default-clause-added c = (no_parent_no_file c.args.tree.now c.args.file.now.kind c.args.file.now.bits c.args.file.now.path.now _ (rw c.in_default.is at c.in_ok-parent.ensures.none), refl)

pub returns-in-Ok-clause-kept : goal.returns-in-Ok-clause-kept
returns-in-Ok-clause-kept c =
    let reaches : Reaches c.args.tree.now.store root c.args.file.now.path.now c.in-Some.parent c.deref.result.now = rw c.deref.ensures.value (rw c.in-Some.is at c.in_ok-parent.ensures.found) in
    c.keep_added.ensures c.add.new.self.store
    (c.keep_parent.ensures c.add.new.self.store c.deref.result.now
    (found_added c.args.tree.now c.add.new.self c.in-Some.parent c.deref.result.now c.args.file.now.kind c.deref-2.result.now _ c.args.folders.now c.in-Ok.ensures.allowed c.in-Ok.ensures.added c.requires.are_found)
    (parent_added c.args.tree.now c.add.new.self c.in-Some.parent c.deref.result.now c.args.file.now.kind c.deref-2.result.now _ c.args.file.now.path.now c.in-Ok.ensures.allowed c.in-Ok.ensures.added reaches))
    (rw c.in-Ok.ensures.next
    (file_added c.args.tree.now c.add.new.self c.in-Some.parent c.deref.result.now c.args.file.now.kind c.deref-2.result.now _ c.args.file.now.path.now c.in-Ok.ensures.allowed c.in-Ok.ensures.added reaches))

pub returns-in-Err-Refused-clause-added : goal.returns-in-Err-Refused-clause-added
returns-in-Err-Refused-clause-added c = (
  refused_no_file c.args.tree.now c.args.file.now.kind c.args.file.now.bits c.args.file.now.path.now _ c.in-Some.parent c.deref.result.now c.deref-2.result.now
      (rw c.deref.ensures.value (rw c.in-Some.is at c.in_ok-parent.ensures.found)) (rw c.deref-2.ensures.value (rw c.in-Some-2.is at c.in_ok-body.ensures.found))
      (refusal_refuses c.in-Err-Refused.field-0 c.in-Err-Refused.field-0-0 _ _ c.in-Err-Refused.field-0-is c.in-Err-Refused.ensures.refused),
  c.in-Err-Refused.ensures.unchanged,
)
