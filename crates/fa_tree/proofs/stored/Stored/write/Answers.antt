use Rattle.std.proofs.Common.{refl}
use Rattle.fa_store.specs.Contents.{written}
use Rattle.fa_tree.specs.parts.FileParts.{files_shown, with_bytes}
use Rattle.fa_tree.specs.parts.CountParts.{counts_of}
use Rattle.fa_tree.specs.parts.ParentParts.{parent_noted}
use Rattle.fa_tree.specs.parts.StoredView.{stored_shown}
use Rattle.fa_tree.proofs.CountLemmas.{same_counted}
use Rattle.fa_tree.proofs.ParentLemmas.{parents_changed_or_not, notes_changed_or_not}
use Rattle.fa_tree.proofs.StoredChangeLemmas.{changed_or_not}
use Rattle.fa_tree.proofs.stored.Stored.write.Goals as goal

pub invariant_of-self : goal.invariant_of-self
invariant_of-self c = (
  changed_or_not c.write.result (stored_shown c.self.inside) (files_shown c.write.new.self.by_id.entries) c.args.file (with_bytes (λ bytes. written bytes c.args.offset _)) (λ f. refl) c.self.invariant.0
      c.write.ensures.written c.write.ensures.unchanged,
  parents_changed_or_not c.write.result (stored_shown c.self.inside) (files_shown c.write.new.self.by_id.entries) c.args.file (with_bytes (λ bytes. written bytes c.args.offset _)) (parent_noted c.self.inside.parents.table.entries) (λ f. refl)
      c.self.invariant.0 c.self.invariant.1 c.write.ensures.written c.write.ensures.unchanged,
  notes_changed_or_not c.write.result (stored_shown c.self.inside) (files_shown c.write.new.self.by_id.entries) c.args.file (with_bytes (λ bytes. written bytes c.args.offset _)) (parent_noted c.self.inside.parents.table.entries) (λ f. refl)
      c.self.invariant.2 c.write.ensures.written c.write.ensures.unchanged,
  same_counted c.self.inside.names.names (counts_of c.self.inside.files.by_id.entries) (counts_of c.write.new.self.by_id.entries) c.write.ensures.counts c.self.invariant.3,
)
