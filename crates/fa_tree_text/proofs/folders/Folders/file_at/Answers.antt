use Rattle.std.proofs.Common.{◌∙◌, ap, List, ℕ}
use Rattle.std.specs.FinMap as map
use Rattle.fa_tree_text.proofs.PathLemmas.{file_none, no_parent_none}
use Rattle.fa_tree_text.proofs.folders.Folders.file_at.Goals as goal

pub returns-in-Some-clause-none : goal.returns-in-Some-clause-none
returns-in-Some-clause-none c =
    file_none c.args.tree.now.store c.args.path.now c.in-Some.parent c.parent_of.new.name.items c.find.result
    (c.find.ensures ∙ ap (λ (n : List ℕ). map.get c.args.tree.now.store.names (c.in-Some.parent, n)) c.deref.ensures.value) (rw c.in-Some.is at c.in_ok-parent.ensures.found)

pub returns-in-None-clause-none : goal.returns-in-None-clause-none
returns-in-None-clause-none c = no_parent_none c.args.tree.now.store c.args.path.now (rw c.in-None.is at c.in_ok-parent.ensures.none)
