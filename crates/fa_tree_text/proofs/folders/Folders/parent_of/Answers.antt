use Rattle.std.proofs.Common.{◌≡◌, true, sym, subst}
use Rattle.fa_tree.specs.State as state
use Rattle.fa_tree_text.specs.Paths.{IsSpelledName}
use Rattle.fa_tree_text.specs.parts.Ways.{Reaches}
use Rattle.fa_tree_text.proofs.FolderLemmas.{reaches_in, within_reached}
use Rattle.fa_tree_text.proofs.folders.Folders.parent_of.Goals as goal

pub returns-in_default-2-clause-none : goal.returns-in_default-2-clause-none
returns-in_default-2-clause-none c = λ parent last r.
    (rw c.in_default-2.is at c.in_ok-directory.ensures.none) parent
    (within_reached c.args.tree.now.store c.args.path.now c.in-Some.folder.now c.in-Some.last.now parent last c.in-Some.ensures.found.1 c.in-Some.ensures.found.0 r).at

pub returns-then-branch-clause-found : goal.returns-then-branch-clause-found
returns-then-branch-clause-found c =
    let is : IsSpelledName c.in-Some.last.now = c.in_ok-decode_name.ensures.spelled.0 c.if-branch.true in
    subst (Reaches c.args.tree.now.store state.root c.args.path.now c.in-Some-2.directory) (sym c.in_ok-decode_name.ensures.decoded)
    (reaches_in c.args.tree.now.store c.args.path.now c.in-Some.folder.now c.in-Some.last.now c.in-Some-2.directory c.in-Some.ensures.found.1 (rw c.in-Some-2.is at c.in_ok-directory.ensures.found) is)

pub returns-else-branch-clause-none : goal.returns-else-branch-clause-none
returns-else-branch-clause-none c = λ parent last r.
    let is : IsSpelledName c.in-Some.last.now =
    (within_reached c.args.tree.now.store c.args.path.now c.in-Some.folder.now c.in-Some.last.now parent last c.in-Some.ensures.found.1 c.in-Some.ensures.found.0 r).is_spelled in
    let spelled : c.in_ok-decode_name.field-0 ≡ true = c.in_ok-decode_name.ensures.spelled.1 is in
    absurd cc
