use Rattle.fa_bodies.specs.Listing.{entries_left}
use Rattle.fa_ledger.specs.SoFar.{listing_so_far}
use Rattle.fa_tree.specs.parts.OpenParts.{open_of}
use Rattle.fa_tree.specs.parts.TreeView.{tree_shown}
use Rattle.fa_tree.proofs.ListingStepLemmas.{entries_still}
use Rattle.fa_tree.proofs.tree.Tree.entries_are.Goals as goal

pub returns-in-Some-clause-are : goal.returns-in-Some-clause-are
returns-in-Some-clause-are c =
    entries_still c.is_listed.result (tree_shown c.self.inside) c.args.self.now c.self.view_is
    c.args.size (open_of c.args.at.now.names) c.args.call.now.listing c.in-Some.listing (listing_so_far c.args.replay.now.list c.args.k)
    (entries_left c.args.entries) c.in-Some.is c.is_listed.ensures.listed
