use Rattle.std.proofs.Common.{length, ap, ◌∙◌}
use Rattle.fa_ledger.proofs.CallerLemmas.{ok_also}
use Rattle.fa_tree.specs.declared.open.Opening.{Opening}
use Rattle.fa_tree.specs.parts.NameParts.{opened_by}
use Rattle.fa_tree.specs.parts.NameViews.{shown}
use Rattle.fa_tree.proofs.ViewLemmas.{shown_push}
use Rattle.fa_tree.proofs.names.Names.open.Goals as goal

pub returns-clause-opened : goal.returns-clause-opened
returns-clause-opened c =
    let slots = c.self.inside.slots.table.entries in
    let openings = c.self.inside.openings in
    let o : Opening = record { asked = c.args.asked; directory = c.args.directory; old_places = length c.of-old_places.result.now } in
    ok_also c.push.result _ _ (λ pushed.
    ap (shown slots) pushed
    ∙ shown_push slots openings o c.self.invariant.0
    ∙ ap (opened_by c.args.asked c.args.directory) c.self.view_is)
    c.push.ensures.pushed
