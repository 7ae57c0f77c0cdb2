use Rattle.std.proofs.Common.{rules}
use Rattle.fa_tree.proofs.CauseLemmas.{of_missing, of_taken, of_no_directory, of_a_directory, of_not_empty}
use Rattle.fa_tree.proofs.stored.Stored.has_cause.Goals as goal

pub returns-in-minus2 : goal.returns-in-minus2
returns-in-minus2 c = λ handle. of_missing (search rules) (c.is_missing.ensures handle)

pub returns-in-minus17 : goal.returns-in-minus17
returns-in-minus17 c = λ handle. of_taken (search rules) (c.is_taken.ensures handle)

pub returns-in-minus20 : goal.returns-in-minus20
returns-in-minus20 c = λ handle. of_no_directory (search rules) (c.is_no_directory.ensures handle)

pub returns-in-minus21 : goal.returns-in-minus21
returns-in-minus21 c = λ handle. of_a_directory (search rules) (c.is_a_directory.ensures handle)

pub returns-in-minus39 : goal.returns-in-minus39
returns-in-minus39 c = λ handle. of_not_empty (search rules) (c.is_not_empty.ensures handle)
