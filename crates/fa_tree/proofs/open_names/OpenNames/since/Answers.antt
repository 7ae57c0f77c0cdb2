use Rattle.std.proofs.Common.{false, sym, ap, ◌∙◌}
use Rattle.std.specs.Option.{option_map_or, option_and_then}
use Rattle.fa_tree.specs.parts.NameViews.{was_since, has_stayed}
use Rattle.fa_tree.proofs.NameLemmas.{contains-since_shown, get-stayed_shown}
use Rattle.fa_tree.proofs.open_names.OpenNames.since.Goals as goal

pub returns-in-Some-clause-had : goal.returns-in-Some-clause-had
returns-in-Some-clause-had c =
    let o = c.args.self.now in
    let found = sym c.get.ensures ∙ c.in-Some.is in
    c.was_there.ensures ∙ sym (contains-since_shown o.directory o.at o.slots.now.table.entries c.args.name.now ∙ ap (λ slot. option_map_or (was_since o.at) slot false) found)

pub returns-in-Some-clause-stayed : goal.returns-in-Some-clause-stayed
returns-in-Some-clause-stayed c =
    let o = c.args.self.now in
    let found = sym c.get.ensures ∙ c.in-Some.is in
    c.file_stayed.ensures ∙ sym (get-stayed_shown o.directory o.at o.slots.now.table.entries c.args.name.now ∙ ap (option_and_then (has_stayed o.at)) found)

pub returns-in-None-clause-had : goal.returns-in-None-clause-had
returns-in-None-clause-had c =
    let o = c.args.self.now in
    let found = sym c.get.ensures ∙ c.in-None.is in
    sym (contains-since_shown o.directory o.at o.slots.now.table.entries c.args.name.now ∙ ap (λ slot. option_map_or (was_since o.at) slot false) found)

pub returns-in-None-clause-stayed : goal.returns-in-None-clause-stayed
returns-in-None-clause-stayed c =
    let o = c.args.self.now in
    let found = sym c.get.ensures ∙ c.in-None.is in
    sym (get-stayed_shown o.directory o.at o.slots.now.table.entries c.args.name.now ∙ ap (option_and_then (has_stayed o.at)) found)
