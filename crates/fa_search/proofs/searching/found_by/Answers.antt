use Rattle.std.proofs.Common.{◌∙◌, List, Ok, length, sym, subst, ap}
use Rattle.fa_order.specs.declared.entry.Entry.{Entry}
use Rattle.fa_check.specs.Runs.{IsLegalRun}
use Rattle.fa_check.specs.Verdicts.{IsLegalWith}
use Rattle.fa_search.proofs.SearchLemmas.{told_legal, told_not_legal}
use Rattle.fa_search.proofs.searching.found_by.Goals as goal

pub returns-in-Legal-clause-legal : goal.returns-in-Legal-clause-legal
returns-in-Legal-clause-legal c = λ m are.
    let told = c.in-Legal in
    subst (λ (es : List Entry). IsLegalWith m c.args.tree es (length m) told.placed told.left) c.deref.ensures.value
    (told_legal m c.args.tree c.deref.result.now c.check.result (c.check.ensures.legal m are) (c.check.ensures.not_shown m are) c.check.ensures.never_fault told.messages told.placed told.left
    (c.in_ok-placed.was ∙ ap Ok told.is))

pub returns-in_default-clause-none : goal.returns-in_default-clause-none
returns-in_default-clause-none c = λ none m are run.
    told_not_legal m c.args.tree c.deref.result.now c.check.result (c.check.ensures.legal m are) (c.check.ensures.not_shown m are) c.check.ensures.never_fault c.in_ok-placed.field-0
    c.in_ok-placed.was c.in_default.not-Legal (subst (IsLegalRun m c.args.tree) (sym c.deref.ensures.value) run)
