use Rattle.std.proofs.Common.{inl, inr, refl, sym, codes, None}
use Rattle.fa_command_line.proofs.CommandLineLemmas.{value_of-given, number_of_value, no_number_of_value}
use Rattle.fa_command_line.proofs.call.SearchPaths.new.Goals as goal

pub returns-in_err-path-clause-none : goal.returns-in_err-path-clause-none
returns-in_err-path-clause-none c none =
    inr (inl (value_of-given _ c.in_ok-options.options.now (codes "capture") None (sym c.in_ok-options.ensures.rows) c.in_err-path.ensures))

pub returns-in_err-steps-clause-none : goal.returns-in_err-steps-clause-none
returns-in_err-steps-clause-none c none =
    inr (inr (no_number_of_value 64 _ _ (value_of-given _ c.in_ok-options.options.now (codes "steps") _ (sym c.in_ok-options.ensures.rows) c.get_str-2.ensures)
    (c.in_err-steps.ensures.none refl)))

pub returns-clause-found : goal.returns-clause-found
returns-clause-found c = record {
  command = c.in_ok-options.ensures.found.0 refl;
  capture_is = value_of-given _ c.in_ok-options.options.now (codes "capture") _ (sym c.in_ok-options.ensures.rows) c.in_ok-path.ensures;
  tree_is = value_of-given _ c.in_ok-options.options.now (codes "tree") _ (sym c.in_ok-options.ensures.rows) c.get_str-tree.ensures;
  steps_are =
      number_of_value 64 _ _ _ (value_of-given _ c.in_ok-options.options.now (codes "steps") _ (sym c.in_ok-options.ensures.rows) c.get_str-2.ensures)
      c.in_ok-steps.ensures.found;
}
