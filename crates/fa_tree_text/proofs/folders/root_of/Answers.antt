use Rattle.std.proofs.Common.{◌≡◌, true, sym, subst}
use Rattle.fa_tree.specs.State as state
use Rattle.fa_tree_text.specs.Paths.{IsSpelledName}
use Rattle.fa_tree_text.specs.parts.Ways.{Reaches}
use Rattle.fa_tree_text.proofs.WayLemmas.{reaches_end, end_spelled}
use Rattle.fa_tree_text.proofs.folders.root_of.Goals as goal

pub returns-then-branch-clause-found : goal.returns-then-branch-clause-found
returns-then-branch-clause-found c =
    let is : IsSpelledName c.args.path.now = c.in_ok-decode_name.ensures.spelled.0 c.if-branch.true in
    rw c.root.ensures (subst (Reaches c.args.tree.now.store state.root c.args.path.now state.root) (sym c.in_ok-decode_name.ensures.decoded)
    (reaches_end c.args.tree.now.store state.root c.args.path.now is))

pub returns-else-branch-clause-none : goal.returns-else-branch-clause-none
returns-else-branch-clause-none c = λ parent last r.
    let is : IsSpelledName c.args.path.now = end_spelled c.args.tree.now.store state.root c.args.path.now c.requires parent last r in
    let spelled : c.in_ok-decode_name.field-0 ≡ true = c.in_ok-decode_name.ensures.spelled.1 is in
    absurd cc
