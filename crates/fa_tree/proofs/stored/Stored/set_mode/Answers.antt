use Rattle.std.proofs.Common.{◌≡◌, refl, sym, subst, ◌∙◌}
use Rattle.fa_bodies.specs.declared.flags.FattrFlags.{FattrFlags}
use Rattle.fa_bodies.specs.FlagBits.{fattr_mode}
use Rattle.fa_bodies.specs.Flags.{has_flag, fattr_bits}
use Rattle.fa_bodies.specs.Views.{setattr_shown}
use Rattle.fa_tree.specs.parts.FileParts.{files_shown, with_bits}
use Rattle.fa_tree.specs.parts.CountParts.{counts_of}
use Rattle.fa_tree.specs.parts.ParentParts.{parent_noted}
use Rattle.fa_tree.specs.parts.StoredView.{stored_shown}
use Rattle.fa_tree.proofs.CountLemmas.{same_counted}
use Rattle.fa_tree.proofs.ParentLemmas.{change_keeps_parents, change_keeps_notes}
use Rattle.fa_tree.proofs.StoredChangeLemmas.{change_keeps_tree, mode_left, link_left}
use Rattle.fa_tree.proofs.stored.Stored.set_mode.Goals as goal
use Rattle.fa_tree.proofs.stored.Stored.set_mode.Goals.{else-contains-via-then-contains+else-not-is_symlink, else-contains-via-else-contains}

pub invariant_of-self : goal.invariant_of-self
invariant_of-self c = (
  change_keeps_tree (stored_shown c.self.inside) (files_shown c.set_bits.new.self.by_id.entries) c.args.file (with_bits c.permission_bits.result) (λ f. refl) c.self.invariant.0 c.set_bits.ensures.files,
  change_keeps_parents (stored_shown c.self.inside) (files_shown c.set_bits.new.self.by_id.entries) c.args.file (with_bits c.permission_bits.result) (parent_noted c.self.inside.parents.table.entries) (λ f. refl)
      c.self.invariant.0 c.self.invariant.1 c.set_bits.ensures.files,
  change_keeps_notes (stored_shown c.self.inside) (files_shown c.set_bits.new.self.by_id.entries) c.args.file (with_bits c.permission_bits.result) (parent_noted c.self.inside.parents.table.entries) (λ f. refl)
      c.self.invariant.2 c.set_bits.ensures.files,
  same_counted c.self.inside.names.names (counts_of c.self.inside.files.by_id.entries) (counts_of c.set_bits.new.self.by_id.entries) c.set_bits.ensures.counts c.self.invariant.3,
)

pub returns-else-contains : goal.returns-else-contains
returns-else-contains c =
    let counts : has_flag (fattr_bits (setattr_shown c.args.setattr.now).valid) fattr_mode ≡ c.contains.result =
    subst (λ (v : FattrFlags). has_flag (fattr_bits v) fattr_mode ≡ c.contains.result) c.valid.ensures (sym (c.contains.ensures _)) in
    elim c.else-contains.branch [
      | else-contains-via-then-contains+else-not-is_symlink w ↦
          link_left c.args.self.now c.args.file (setattr_shown c.args.setattr.now) (w.is_symlink.ensures.0 w.if-not-is_symlink.false)
      | else-contains-via-else-contains w ↦
          mode_left c.args.self.now c.args.file (setattr_shown c.args.setattr.now) (counts ∙ w.if-contains.false)
    ]
