use Rattle.std.proofs.Common.{sym, ap, ◌∙◌}
use Rattle.std.specs.FinMap.{get}
use Rattle.fa_tree.specs.State.{TreeState}
use Rattle.fa_tree.proofs.BindingLemmas.{may_be_bound}
use Rattle.fa_tree.proofs.tree.Tree.may_bind.Goals as goal

pub returns-in-Some-get : goal.returns-in-Some-get
returns-in-Some-get c = rw (c.in-Some.is)
    (may_be_bound c.args.self.now.nodes c.in-Some.name c.in-Some.file c.in-Some-get.other c.eq.result
    (sym (ap (λ (t : TreeState). get t.nodes c.in-Some.name) c.self.view_is) ∙ (sym c.get.ensures ∙ c.in-Some-get.is)) c.eq.ensures)
