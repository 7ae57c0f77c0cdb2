use Rattle.std.proofs.Common.{subst}
use Rattle.std.specs.Prelude.{◌↔◌, All, IsTrue}
use Rattle.fa_bodies.specs.Listing.{entries_left}
use Rattle.fa_tree.specs.declared.id.FileId.{FileId}
use Rattle.fa_tree.specs.Directories.{judged, IsTypedIfLookedUp}
use Rattle.fa_tree.specs.parts.TreeView.{tree_shown}
use Rattle.fa_tree.proofs.ListingStepLemmas.{types_still}
use Rattle.fa_tree.proofs.tree.Tree.types_fit.Goals as goal

pub returns : goal.returns
returns c =
    subst (λ (d : FileId). IsTrue c.all_typed.result ↔ All (IsTypedIfLookedUp c.args.self.now.store d) (judged (entries_left c.args.entries))) c.directory.ensures
    (types_still (tree_shown c.self.inside) c.args.self.now c.self.view_is c.directory.result (entries_left c.args.entries) c.all_typed.result c.all_typed.ensures)
