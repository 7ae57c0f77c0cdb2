use Rattle.std.proofs.Common.{refl}
use Rattle.fa_tree.specs.Making.{emptied}
use Rattle.fa_tree.specs.parts.CountParts.{counts_of}
use Rattle.fa_tree.specs.parts.FileParts.{files_shown}
use Rattle.fa_tree.specs.parts.ParentParts.{parent_noted}
use Rattle.fa_tree.specs.parts.StoredView.{stored_shown}
use Rattle.fa_tree.proofs.CountLemmas.{same_counted}
use Rattle.fa_tree.proofs.ParentLemmas.{change_keeps_parents, change_keeps_notes}
use Rattle.fa_tree.proofs.StoredChangeLemmas.{change_keeps_tree}
use Rattle.fa_tree.proofs.stored.Stored.empty.Goals as goal

pub invariant_of-self : goal.invariant_of-self
invariant_of-self c = (
  change_keeps_tree (stored_shown c.self.inside) (files_shown c.clear.new.self.by_id.entries) c.args.file emptied (λ f. refl) c.self.invariant.0 c.clear.ensures.files,
  change_keeps_parents (stored_shown c.self.inside) (files_shown c.clear.new.self.by_id.entries) c.args.file emptied (parent_noted c.self.inside.parents.table.entries) (λ f. refl)
      c.self.invariant.0 c.self.invariant.1 c.clear.ensures.files,
  change_keeps_notes (stored_shown c.self.inside) (files_shown c.clear.new.self.by_id.entries) c.args.file emptied (parent_noted c.self.inside.parents.table.entries) (λ f. refl)
      c.self.invariant.2 c.clear.ensures.files,
  same_counted c.self.inside.names.names (counts_of c.self.inside.files.by_id.entries) (counts_of c.clear.new.self.by_id.entries) c.clear.ensures.counts c.self.invariant.3,
)
