use Rattle.std.proofs.Common.{ap, ◌∙◌}
use Rattle.std.specs.Prelude.{option_map}
use Rattle.fa_ledger.specs.Calls.{PlainCall, call_shown}
use Rattle.fa_tree.proofs.SoFarLemmas.{rising, asked_there, asked_nowhere, goes_on}
use Rattle.fa_tree.proofs.so_far.before.Goals as goal

pub returns-in_err-find-clause-none : goal.returns-in_err-find-clause-none
returns-in_err-find-clause-none c =
    let calls = c.args.calls.now.list in
    let call = call_shown c.args.call.now in
    rw c.from_residual-in_err-find.ensures
    (goes_on calls call c.in_ok-call.field-0 (c.in_ok-asked.asked, c.in_ok-asked.count) c.in_ok-call.was c.in_ok-asked.was
    ∙ ap (option_map (λ (earlier : PlainCall). (earlier, c.in_ok-asked.count))) (asked_nowhere calls c.in_ok-asked.asked c.in_err-find.ensures.none))

pub returns-clause-found : goal.returns-clause-found
returns-clause-found c =
    let calls = c.args.calls.now.list in
    let call = call_shown c.args.call.now in
    let found = c.in_ok-find.ensures.found in
    let first = asked_there calls c.in_ok-asked.asked c.in_ok-find.field-0 found.0 (rising calls c.args.calls.now.messages c.args.calls.now.good) found.1 found.2 in (
      found.0,
      found.1,
      goes_on calls call c.in_ok-call.field-0 (c.in_ok-asked.asked, c.in_ok-asked.count) c.in_ok-call.was c.in_ok-asked.was
          ∙ ap (option_map (λ (earlier : PlainCall). (earlier, c.in_ok-asked.count))) first,
    )
