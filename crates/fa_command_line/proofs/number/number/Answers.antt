use Rattle.fa_command_line.proofs.CommandLineLemmas.{number_found, number_none}
use Rattle.fa_command_line.proofs.number.number.Goals as goal

pub returns-clause-found : goal.returns-clause-found
returns-clause-found c = rw c.ok.ensures.value (number_found 32 c.args.text.now c.parse.result c.parse.ensures.value.0)

pub returns-clause-none : goal.returns-clause-none
returns-clause-none c = rw c.ok.ensures.value (number_none 32 c.args.text.now c.parse.result c.parse.ensures.value.0)
