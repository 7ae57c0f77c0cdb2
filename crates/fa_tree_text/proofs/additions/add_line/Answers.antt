use Rattle.fa_tree_text.proofs.AdditionLemmas.{no_line}
use Rattle.fa_tree_text.proofs.additions.add_line.Goals as goal

pub returns-else-branch-clause-none : goal.returns-else-branch-clause-none
returns-else-branch-clause-none c =
    no_line c.args.tree.now c.args.left.now c.in-Some.line.now c.in-Some.rest.now c.in-Some.ensures.found.0 c.in-Some.ensures.found.1 (rw c.if-branch.false at c.in_ok-add_fields.ensures.added).0
