use Rattle.std.proofs.Common.{inl, inr, refl, sym, codes, None}
use Rattle.fa_command_line.proofs.CommandLineLemmas.{value_of-given, number_of_value, no_number_of_value}
use Rattle.fa_command_line.proofs.call.PagePaths.new.Goals as goal

pub returns-in_err-path-clause-none : goal.returns-in_err-path-clause-none
returns-in_err-path-clause-none c none =
    inr (inl (value_of-given _ c.in_ok-options.options.now (codes "capture") None (sym c.in_ok-options.ensures.rows) c.in_err-path.ensures))

pub returns-in_err-around-clause-none : goal.returns-in_err-around-clause-none
returns-in_err-around-clause-none c none =
    inr (inr (inl (no_number_of_value 32 _ _ (value_of-given _ c.in_ok-options.options.now (codes "around") _ (sym c.in_ok-options.ensures.rows) c.get_str-2.ensures)
    (c.in_err-around.ensures.none refl))))

pub returns-in_err-messages-clause-none : goal.returns-in_err-messages-clause-none
returns-in_err-messages-clause-none c none =
    inr (inr (inr (no_number_of_value 32 _ _ (value_of-given _ c.in_ok-options.options.now (codes "messages") _ (sym c.in_ok-options.ensures.rows) c.get_str-3.ensures)
    (c.in_err-messages.ensures.none refl))))

pub returns-clause-found : goal.returns-clause-found
returns-clause-found c = record {
  command = c.in_ok-options.ensures.found.0 refl;
  capture_is = value_of-given _ c.in_ok-options.options.now (codes "capture") _ (sym c.in_ok-options.ensures.rows) c.in_ok-path.ensures;
  tree_is = value_of-given _ c.in_ok-options.options.now (codes "tree") _ (sym c.in_ok-options.ensures.rows) c.get_str-tree.ensures;
  order_is = value_of-given _ c.in_ok-options.options.now (codes "order") _ (sym c.in_ok-options.ensures.rows) c.get_str-order.ensures;
  around_is =
      number_of_value 32 _ _ _ (value_of-given _ c.in_ok-options.options.now (codes "around") _ (sym c.in_ok-options.ensures.rows) c.get_str-2.ensures)
      c.in_ok-around.ensures.found;
  messages_are =
      number_of_value 32 _ _ _ (value_of-given _ c.in_ok-options.options.now (codes "messages") _ (sym c.in_ok-options.ensures.rows) c.get_str-3.ensures)
      c.in_ok-messages.ensures.found;
}
