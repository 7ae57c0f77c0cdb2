use Rattle.std.proofs.Common.{sym, ap, ◌∙◌}
use Rattle.fa_ledger.specs.parts.Steps.{closed_once}
use Rattle.fa_ledger.proofs.TableLemmas.{inserted, wrote_ok, at_key, after_write, nothing_closed}
use Rattle.fa_ledger.proofs.handles.Handles.close.Goals as goal

pub unwrap-requires : goal.unwrap-requires
unwrap-requires c =
    inserted c.insert.result _ c.insert.ensures.absent
    (λ none. absurd (nothing_closed c.get.result c.in-Some.handle (c.get.ensures ∙ sym (at_key c.args.key.now c.args.self.now.opened.entries) ∙ none) (sym c.closed_once.ensures ∙ c.in-Some.is)))

pub returns-in-Some-clause-closed : goal.returns-in-Some-clause-closed
returns-in-Some-clause-closed c =
    after_write c.args.key.now c.args.self.now.opened.entries c.insert.new.self.entries _ _
    (sym c.in-Some.is ∙ c.closed_once.ensures ∙ ap closed_once c.get.ensures)
    (wrote_ok c.insert.result _ c.unwrap.result c.unwrap.ensures c.insert.ensures.updates).0

pub returns-in-None-clause-closed : goal.returns-in-None-clause-closed
returns-in-None-clause-closed c =
    after_write c.args.key.now c.args.self.now.opened.entries c.swap_remove.new.self.entries _ _
    (sym c.in-None.is ∙ c.closed_once.ensures ∙ ap closed_once c.get.ensures)
    (c.swap_remove.ensures.updates.0)
