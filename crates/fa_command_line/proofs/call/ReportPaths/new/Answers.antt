use Rattle.std.proofs.Common.{inr, refl, sym, codes}
use Rattle.fa_command_line.proofs.CommandLineLemmas.{value_of-given, number_of_value, no_number_of_value}
use Rattle.fa_command_line.proofs.call.ReportPaths.new.Goals as goal

pub returns-in_err-steps-clause-none : goal.returns-in_err-steps-clause-none
returns-in_err-steps-clause-none c none =
    inr (no_number_of_value 64 _ _ (value_of-given _ c.in_ok-options.options.now (codes "steps") _ (sym c.in_ok-options.ensures.rows) c.get_str.ensures)
    (c.in_err-steps.ensures.none refl))

pub returns-clause-found : goal.returns-clause-found
returns-clause-found c = record {
  page_is = c.in_ok-page.ensures.found;
  steps_are =
      number_of_value 64 _ _ _ (value_of-given _ c.in_ok-options.options.now (codes "steps") _ (sym c.in_ok-options.ensures.rows) c.get_str.ensures)
      c.in_ok-steps.ensures.found;
}
