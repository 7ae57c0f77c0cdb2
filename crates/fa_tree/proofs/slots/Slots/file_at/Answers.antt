use Rattle.std.proofs.Common.{sym, ap, ◌∙◌}
use Rattle.std.specs.Option.{option_and_then}
use Rattle.fa_tree.specs.parts.SlotParts.{file_in}
use Rattle.fa_tree.proofs.NameLemmas.{get-names_shown}
use Rattle.fa_tree.proofs.slots.Slots.file_at.Goals as goal

pub returns-in_err-get : goal.returns-in_err-get
returns-in_err-get c =
    let found = sym c.get.ensures ∙ c.in_err-get.was in
    c.from_residual.ensures ∙ sym (get-names_shown c.args.self.now.table.entries (c.args.directory, c.args.name.now) ∙ ap (option_and_then file_in) found)

pub returns : goal.returns
returns c =
    let found = sym c.get.ensures ∙ c.in_ok-get.was in
    c.file.ensures ∙ sym (get-names_shown c.args.self.now.table.entries (c.args.directory, c.args.name.now) ∙ ap (option_and_then file_in) found)
