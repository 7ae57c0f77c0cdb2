use Rattle.std.proofs.Common.{refl}
use Rattle.fa_store.specs.Contents.{resized}
use Rattle.fa_tree.specs.parts.FileParts.{files_shown, with_bytes}
use Rattle.fa_tree.specs.parts.CountParts.{counts_of}
use Rattle.fa_tree.specs.parts.ParentParts.{parent_noted}
use Rattle.fa_tree.specs.parts.StoredView.{stored_shown}
use Rattle.fa_tree.proofs.CountLemmas.{same_counted}
use Rattle.fa_tree.proofs.ParentLemmas.{parents_changed_or_not, notes_changed_or_not}
use Rattle.fa_tree.proofs.StoredChangeLemmas.{changed_or_not}
use Rattle.fa_tree.proofs.stored.Stored.resize.Goals as goal

pub invariant_of-self : goal.invariant_of-self
invariant_of-self c = (
  changed_or_not c.resize.result (stored_shown c.self.inside) (files_shown c.resize.new.self.by_id.entries) c.args.file (with_bytes (λ bytes. resized bytes c.args.size)) (λ f. refl) c.self.invariant.0
      c.resize.ensures.resized c.resize.ensures.unchanged,
  parents_changed_or_not c.resize.result (stored_shown c.self.inside) (files_shown c.resize.new.self.by_id.entries) c.args.file (with_bytes (λ bytes. resized bytes c.args.size)) (parent_noted c.self.inside.parents.table.entries) (λ f. refl)
      c.self.invariant.0 c.self.invariant.1 c.resize.ensures.resized c.resize.ensures.unchanged,
  notes_changed_or_not c.resize.result (stored_shown c.self.inside) (files_shown c.resize.new.self.by_id.entries) c.args.file (with_bytes (λ bytes. resized bytes c.args.size)) (parent_noted c.self.inside.parents.table.entries) (λ f. refl)
      c.self.invariant.2 c.resize.ensures.resized c.resize.ensures.unchanged,
  same_counted c.self.inside.names.names (counts_of c.self.inside.files.by_id.entries) (counts_of c.resize.new.self.by_id.entries) c.resize.ensures.counts c.self.invariant.3,
)
