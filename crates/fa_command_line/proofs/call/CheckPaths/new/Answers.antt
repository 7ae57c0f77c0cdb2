use Rattle.std.proofs.Common.{inl, inr, refl, sym, codes, None}
use Rattle.fa_command_line.proofs.CommandLineLemmas.{value_of-given}
use Rattle.fa_command_line.proofs.call.CheckPaths.new.Goals as goal

pub returns-in_err-get_str-clause-none : goal.returns-in_err-get_str-clause-none
returns-in_err-get_str-clause-none c none =
    inr (inl (value_of-given _ c.in_ok-options.options.now (codes "capture") None (sym c.in_ok-options.ensures.rows) c.in_err-get_str.ensures))

pub returns-in_err-get_str-2-clause-none : goal.returns-in_err-get_str-2-clause-none
returns-in_err-get_str-2-clause-none c none =
    inr (inr (value_of-given _ c.in_ok-options.options.now (codes "order") None (sym c.in_ok-options.ensures.rows) c.in_err-get_str-2.ensures))

pub returns-clause-found : goal.returns-clause-found
returns-clause-found c = record {
  command = c.in_ok-options.ensures.found.0 refl;
  capture_is = value_of-given _ c.in_ok-options.options.now (codes "capture") _ (sym c.in_ok-options.ensures.rows) c.in_ok-get_str.ensures;
  tree_is = value_of-given _ c.in_ok-options.options.now (codes "tree") _ (sym c.in_ok-options.ensures.rows) c.get_str-2.ensures;
  order_is = value_of-given _ c.in_ok-options.options.now (codes "order") _ (sym c.in_ok-options.ensures.rows) c.in_ok-get_str-2.ensures;
}
