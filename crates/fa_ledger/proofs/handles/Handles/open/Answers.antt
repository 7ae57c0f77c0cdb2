use Rattle.std.proofs.Common.{sym, ap, ◌∙◌, Some}
use Rattle.fa_ledger.specs.parts.Steps.{opened_again}
use Rattle.fa_ledger.proofs.TableLemmas.{inserted, wrote_ok, at_key, after_write}
use Rattle.fa_ledger.proofs.handles.Handles.open.Goals as goal

pub unwrap-requires : goal.unwrap-requires
unwrap-requires c =
    inserted c.insert.result _ c.insert.ensures.absent
    (λ none. c.insert.ensures.succeeds (c.requires.room (sym (at_key c.args.key c.args.self.now.opened.entries) ∙ none)))

pub returns-clause-opened : goal.returns-clause-opened
returns-clause-opened c =
    after_write c.args.key c.args.self.now.opened.entries c.insert.new.self.entries _ _
    (ap (λ h. Some h) (c.opened_again-handle.ensures ∙ ap (opened_again c.args.asked c.args.direct) c.get-old.ensures))
    (wrote_ok c.insert.result _ c.unwrap.result c.unwrap.ensures c.insert.ensures.updates).0
