use Rattle.std.proofs.Common.{refl, sym, codes}
use Rattle.fa_command_line.proofs.CommandLineLemmas.{value_of-given}
use Rattle.fa_command_line.proofs.call.Topic.new.Goals as goal

pub returns-clause-found : goal.returns-clause-found
returns-clause-found c = record {
  command = c.in_ok-options.ensures.found.0 refl;
  word_is = value_of-given _ c.in_ok-options.options.now (codes "topic") _ (sym c.in_ok-options.ensures.rows) c.get_str-word.ensures;
}
