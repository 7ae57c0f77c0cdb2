use Rattle.std.proofs.Common.{sym, subst, ◌∙◌}
use Rattle.fa_tree.specs.parts.CountParts.{counts_of, AreCounted}
use Rattle.fa_tree.specs.parts.FileParts.{files_shown}
use Rattle.fa_tree.specs.parts.NameParts.{NamesShown}
use Rattle.fa_tree.specs.parts.ParentParts.{parent_noted}
use Rattle.fa_tree.specs.parts.StoredView.{stored_shown}
use Rattle.fa_tree.proofs.ExchangeLemmas.{exchange_counted}
use Rattle.fa_tree.proofs.ParentLemmas.{exchanged_parents, exchanged_notes}
use Rattle.fa_tree.proofs.StoredChangeLemmas.{still_exchanged, exchanged_tree}
use Rattle.fa_tree.proofs.stored.Stored.exchange.Goals as goal

pub invariant_of-self : goal.invariant_of-self
invariant_of-self c =
    let may = still_exchanged (stored_shown c.self.inside) c.args.self.now c.args.old_directory c.args.old_name.now c.args.new_directory c.args.new_name.now c.self.view_is c.requires in
    let there = sym c.get.ensures ∙ c.in-Some.is in
    let also = sym c.get-other.ensures ∙ c.in-Some-other.is in (
      exchanged_tree c.self.inside.names c.exchange.new.self (files_shown c.self.inside.files.by_id.entries) c.args.old_directory c.args.old_name.now c.args.new_directory c.args.new_name.now
          c.in-Some.file c.in-Some-other.other c.self.invariant.0 may there also c.exchange.ensures,
      rw (c.exchange.ensures)
          (exchanged_parents (stored_shown c.self.inside).store c.args.old_directory c.args.old_name.now c.args.new_directory c.args.new_name.now
          c.in-Some.file c.in-Some-other.other c.self.invariant.0 there also
          (parent_noted c.self.inside.parents.table.entries) (parent_noted c.set.new.self.table.entries) (parent_noted c.set-in-Some-other.new.self.table.entries)
          c.self.invariant.1 c.set.ensures c.set-in-Some-other.ensures),
      rw (c.exchange.ensures)
          (exchanged_notes (stored_shown c.self.inside).store c.args.old_directory c.args.old_name.now c.args.new_directory c.args.new_name.now c.in-Some.file there
          (parent_noted c.self.inside.parents.table.entries) (parent_noted c.set.new.self.table.entries) (parent_noted c.set-in-Some-other.new.self.table.entries) c.self.invariant.2
          c.in-Some-other.other also c.set.ensures c.set-in-Some-other.ensures),
      subst (λ (m : NamesShown). AreCounted m.names (counts_of c.self.inside.files.by_id.entries)) (sym c.exchange.ensures)
          (exchange_counted c.self.inside.names.names (counts_of c.self.inside.files.by_id.entries) c.args.old_directory c.args.old_name.now c.args.new_directory c.args.new_name.now
          c.in-Some.file c.in-Some-other.other there also c.self.invariant.3),
    )
