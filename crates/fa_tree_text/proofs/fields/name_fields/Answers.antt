use Rattle.fa_tree_text.proofs.FieldLemmas.{no_older}
use Rattle.fa_tree_text.proofs.fields.name_fields.Goals as goal

pub returns-in_err-path-clause-none : goal.returns-in_err-path-clause-none
returns-in_err-path-clause-none c = rw c.from_residual.ensures (no_older c.args.line.now c.in_err-path.ensures.none)
