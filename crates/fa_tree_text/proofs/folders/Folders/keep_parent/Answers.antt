use Rattle.fa_tree_text.proofs.FolderLemmas.{within_reached}
use Rattle.fa_tree_text.proofs.folders.Folders.keep_parent.Goals as goal

pub returns-in-Some : goal.returns-in-Some
returns-in-Some c = λ s last found r. (
  (within_reached s c.args.path.now c.in-Some.folder.now c.in-Some.field-0-1.now c.args.directory last c.in-Some.ensures.found.1 c.in-Some.ensures.found.0 r).at,
  found.1,
)
