use Rattle.std.proofs.Common.{inl, inr, refl, sym, codes, None}
use Rattle.fa_command_line.proofs.CommandLineLemmas.{value_of-given, number_of_value, no_number_of_value}
use Rattle.fa_command_line.proofs.call.ShowPaths.new.Goals as goal

pub returns-in_err-path-clause-none : goal.returns-in_err-path-clause-none
returns-in_err-path-clause-none c none =
    inr (inl (value_of-given _ c.in_ok-options.options.now (codes "capture") None (sym c.in_ok-options.ensures.rows) c.in_err-path.ensures))

pub returns-in_err-from-clause-none : goal.returns-in_err-from-clause-none
returns-in_err-from-clause-none c none =
    inr (inr (inl (no_number_of_value 32 _ _ (value_of-given _ c.in_ok-options.options.now (codes "from") _ (sym c.in_ok-options.ensures.rows) c.get_str-2.ensures)
    (c.in_err-from.ensures.none refl))))

pub returns-in_err-to-clause-none : goal.returns-in_err-to-clause-none
returns-in_err-to-clause-none c none =
    inr (inr (inr (inl (no_number_of_value 32 _ _ (value_of-given _ c.in_ok-options.options.now (codes "to") _ (sym c.in_ok-options.ensures.rows) c.get_str-3.ensures)
    (c.in_err-to.ensures.none refl)))))

pub returns-in_err-node-clause-none : goal.returns-in_err-node-clause-none
returns-in_err-node-clause-none c none =
    inr (inr (inr (inr (no_number_of_value 64 _ _ (value_of-given _ c.in_ok-options.options.now (codes "node") _ (sym c.in_ok-options.ensures.rows) c.get_str-4.ensures)
    (c.in_err-node.ensures.none refl)))))

pub returns-clause-found : goal.returns-clause-found
returns-clause-found c = record {
  command = c.in_ok-options.ensures.found.0 refl;
  capture_is = value_of-given _ c.in_ok-options.options.now (codes "capture") _ (sym c.in_ok-options.ensures.rows) c.in_ok-path.ensures;
  from_is =
      number_of_value 32 _ _ _ (value_of-given _ c.in_ok-options.options.now (codes "from") _ (sym c.in_ok-options.ensures.rows) c.get_str-2.ensures)
      c.in_ok-from.ensures.found;
  to_is =
      number_of_value 32 _ _ _ (value_of-given _ c.in_ok-options.options.now (codes "to") _ (sym c.in_ok-options.ensures.rows) c.get_str-3.ensures)
      c.in_ok-to.ensures.found;
  node_is =
      number_of_value 64 _ _ _ (value_of-given _ c.in_ok-options.options.now (codes "node") _ (sym c.in_ok-options.ensures.rows) c.get_str-4.ensures)
      c.in_ok-node.ensures.found;
  name_is = value_of-given _ c.in_ok-options.options.now (codes "name") _ (sym c.in_ok-options.ensures.rows) c.get_str-name.ensures;
  operation_is = value_of-given _ c.in_ok-options.options.now (codes "operation") _ (sym c.in_ok-options.ensures.rows) c.get_str-operation.ensures;
}
