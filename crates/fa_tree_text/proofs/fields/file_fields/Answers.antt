use Rattle.fa_tree_text.proofs.FieldLemmas.{no_bits}
use Rattle.fa_tree_text.proofs.fields.file_fields.Goals as goal

pub returns-in_err-bits-clause-none : goal.returns-in_err-bits-clause-none
returns-in_err-bits-clause-none c = rw c.from_residual-in_err-bits.ensures (no_bits c.args.line.now c.in_err-bits.ensures.none)
