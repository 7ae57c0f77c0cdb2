use Rattle.std.proofs.Common.{◌≡◌, ℕ, sym, subst, ◌∙◌}
use Rattle.fa_bodies.specs.declared.flags.FattrFlags.{FattrFlags}
use Rattle.fa_bodies.specs.FlagBits.{fattr_size}
use Rattle.fa_bodies.specs.Flags.{has_flag, fattr_bits}
use Rattle.fa_bodies.specs.Views.{setattr_shown}
use Rattle.fa_store.specs.Contents.{resized}
use Rattle.fa_tree.specs.Rules.{with_file}
use Rattle.fa_tree.specs.parts.FileParts.{with_bytes}
use Rattle.fa_tree.specs.parts.StoredParts.{stored_with}
use Rattle.fa_tree.proofs.StoredChangeLemmas.{set_whole, set_mode_only}
use Rattle.fa_tree.proofs.stored.Stored.set_attributes.Goals as goal
use Rattle.fa_tree.proofs.stored.Stored.set_attributes.Goals.{then-contains+in_ok-resize, else-contains}

pub returns-clause-set : goal.returns-clause-set
returns-clause-set c =
    let asked = setattr_shown c.args.setattr.now in
    let counts : has_flag (fattr_bits asked.valid) fattr_size ≡ c.contains.result =
    subst (λ (v : FattrFlags). has_flag (fattr_bits v) fattr_size ≡ c.contains.result) c.valid.ensures (sym (c.contains.ensures _)) in
    elim c.if-contains.branch [
      | then-contains+in_ok-resize w ↦
          set_whole c.args.self.now c.if-contains.self c.set_mode.new.self c.args.file asked (counts ∙ w.if-contains.true)
          (subst (λ (n : ℕ). c.if-contains.self ≡ stored_with (with_file c.args.self.now.store.files c.args.file (with_bytes (λ bytes. resized bytes n))) c.args.self.now)
          w.size.ensures (w.self-is ∙ w.in_ok-resize.ensures.resized)) c.set_mode.ensures
      | else-contains w ↦
          set_mode_only c.args.self.now c.if-contains.self c.set_mode.new.self c.args.file asked (counts ∙ w.if-contains.false) w.self-is c.set_mode.ensures
    ]
