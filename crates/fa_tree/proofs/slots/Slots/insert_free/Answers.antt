use Rattle.std.proofs.Common.{sym, ◌∙◌}
use Rattle.fa_tree.proofs.NameLemmas.{get-names_shown}
use Rattle.fa_tree.proofs.slots.Slots.insert_free.Goals as goal

pub insert_new-requires : goal.insert_new-requires
insert_new-requires c = c.args.self.now.there c.if-self.true (c.args.directory, c.args.name.now) (sym (get-names_shown c.args.self.now.table.entries (c.args.directory, c.args.name.now)) ∙ c.requires)
