use Rattle.std.proofs.Common.{sym, codes}
use Rattle.fa_command_line.proofs.CommandLineLemmas.{value_of-given}
use Rattle.fa_command_line.proofs.call.JudgePaths.new.Goals as goal

pub returns-clause-found : goal.returns-clause-found
returns-clause-found c = record {
  search_is = c.in_ok-paths.ensures.found;
  order_out_is = value_of-given _ c.in_ok-options.options.now (codes "order-out") _ (sym c.in_ok-options.ensures.rows) c.get_str-order_out.ensures;
}
