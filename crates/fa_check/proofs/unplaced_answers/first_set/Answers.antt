use Rattle.std.proofs.Common.{sym, ◌∙◌}
use Rattle.fa_check.proofs.MarkLemmas.{first_at, first_none}
use Rattle.fa_check.proofs.unplaced_answers.first_set.Goals as goal

pub returns-in-Some : goal.returns-in-Some
returns-in-Some c = first_at c.args.marks.now c.in-Some.place (sym c.position_set.ensures ∙ c.in-Some.is)

pub returns-in-None : goal.returns-in-None
returns-in-None c = first_none c.args.marks.now (sym c.position_set.ensures ∙ c.in-None.is)
