use Rattle.std.proofs.Common.{inr, refl, sym, codes, None}
use Rattle.fa_command_line.proofs.CommandLineLemmas.{value_of-given}
use Rattle.fa_command_line.proofs.call.ExplainPaths.new.Goals as goal

pub returns-in_err-path-clause-none : goal.returns-in_err-path-clause-none
returns-in_err-path-clause-none c none =
    inr (value_of-given _ c.in_ok-options.options.now (codes "capture") None (sym c.in_ok-options.ensures.rows) c.in_err-path.ensures)

pub returns-clause-found : goal.returns-clause-found
returns-clause-found c = record {
  command = c.in_ok-options.ensures.found.0 refl;
  capture_is = value_of-given _ c.in_ok-options.options.now (codes "capture") _ (sym c.in_ok-options.ensures.rows) c.in_ok-path.ensures;
  tree_is = value_of-given _ c.in_ok-options.options.now (codes "tree") _ (sym c.in_ok-options.ensures.rows) c.get_str-tree.ensures;
  order_is = value_of-given _ c.in_ok-options.options.now (codes "order") _ (sym c.in_ok-options.ensures.rows) c.get_str-order.ensures;
}
