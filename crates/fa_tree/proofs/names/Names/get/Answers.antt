use Rattle.std.proofs.Common.{sym, ap, ◌∙◌}
use Rattle.std.specs.FinMap.{get}
use Rattle.std.specs.Option.{option_and_then}
use Rattle.fa_tree.specs.State as state
use Rattle.fa_tree.specs.parts.SlotParts.{file_in}
use Rattle.fa_tree.proofs.NameLemmas.{get-names_shown}
use Rattle.fa_tree.proofs.names.Names.get.Goals as goal

pub returns-in-Some : goal.returns-in-Some
returns-in-Some c =
    let place : state.Place = (c.args.directory, c.args.name.now) in
    c.file.ensures ∙ ap (option_and_then file_in) c.in-Some.ensures
    ∙ sym (get-names_shown c.self.inside.slots.table.entries place) ∙ ap (λ n. get n.names place) c.self.view_is

pub returns-in-None : goal.returns-in-None
returns-in-None c =
    let place : state.Place = (c.args.directory, c.args.name.now) in
    ap (option_and_then file_in) c.in-None.ensures
    ∙ sym (get-names_shown c.self.inside.slots.table.entries place) ∙ ap (λ n. get n.names place) c.self.view_is
