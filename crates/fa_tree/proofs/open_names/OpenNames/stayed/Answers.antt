use Rattle.std.proofs.Common.{sym, ap, ◌∙◌}
use Rattle.std.specs.Option.{option_and_then}
use Rattle.fa_tree.specs.parts.NameViews.{has_stayed}
use Rattle.fa_tree.proofs.NameLemmas.{get-stayed_shown}
use Rattle.fa_tree.proofs.open_names.OpenNames.stayed.Goals as goal

pub returns-in_err-get : goal.returns-in_err-get
returns-in_err-get c =
    let o = c.args.self.now in
    let found = sym c.get.ensures ∙ c.in_err-get.was in
    c.from_residual.ensures ∙ sym (get-stayed_shown o.directory o.at o.slots.now.table.entries c.args.name.now ∙ ap (option_and_then (has_stayed o.at)) found)

pub returns : goal.returns
returns c =
    let o = c.args.self.now in
    let found = sym c.get.ensures ∙ c.in_ok-get.was in
    c.file_stayed.ensures ∙ sym (get-stayed_shown o.directory o.at o.slots.now.table.entries c.args.name.now ∙ ap (option_and_then (has_stayed o.at)) found)
