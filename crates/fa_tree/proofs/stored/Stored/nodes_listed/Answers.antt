use Rattle.std.proofs.Common.{List, ◌++◌, ap, refl, sym, ◌∙◌}
use Rattle.fa_bodies.specs.declared.dirent.Entries.{Entries}
use Rattle.fa_bodies.specs.Dirents.{dirent_shown}
use Rattle.fa_bodies.specs.Listing.{entries_left}
use Rattle.fa_ledger.specs.declared.name.NodeName.{NodeName}
use Rattle.fa_tree.specs.declared.id.FileId.{FileId}
use Rattle.fa_tree.specs.Directories.{files_listed}
use Rattle.fa_tree.specs.Bindings.{bound}
use Rattle.fa_tree.proofs.ListingLemmas.{entry_skipped, entry_in_vain, entry_bound, no_name_left, no_entry_left}
use Rattle.fa_tree.proofs.stored.Stored.nodes_listed.Goals as goal

pub loop-dirent-init : goal.loop-dirent-init
loop-dirent-init c =
    let left : Entries → List (NodeName × FileId) = λ it. bound c.args.names.now (files_listed c.args.self.now.store c.args.directory (entries_left it)) in (
      tt,
      tt,
      ap left (sym c.into_iter-dirent-iterator.ensures.into_iter_gives)
          ∙ ap (λ items. items ++ left c.into_iter-dirent-iterator.result) (sym c.new-given.ensures.items),
    )

pub returns-in_default : goal.returns-in_default
returns-in_default c = no_name_left _ _ c.loop-dirent.left.now _ c.loop-dirent.invariant.2 c.in_default.ensures.cases

pub loop-dirent-preserved-in-Continue-1 : goal.loop-dirent-preserved-in-Continue-1
loop-dirent-preserved-in-Continue-1 c =
    let d = dirent_shown c.in-Some.dirent in (
      tt,
      tt,
      entry_bound c.args.self.now.store c.args.directory _ _ _ _ _ d c.loop-dirent.invariant.2 c.in-Some.ensures.steps
          c.in-Some-split_first.rest.now c.in-Some-split_first.name.now c.in-Some-find.file _ (c.if-gives_node.ensures.0 refl)
          c.in-Some-split_first.ensures.cases.0 (sym c.in-Some-find.ensures) c.in_ok-push.ensures.items,
    )

pub loop-dirent-preserved-in_default-find : goal.loop-dirent-preserved-in_default-find
loop-dirent-preserved-in_default-find c =
    let d = dirent_shown c.in-Some.dirent in (
      tt,
      tt,
      entry_in_vain c.args.self.now.store c.args.directory _ _ _ _ _ d c.loop-dirent.invariant.2 c.in-Some.ensures.steps
          c.in-Some-split_first.rest.now c.in-Some-split_first.name.now (c.if-gives_node.ensures.0 refl)
          c.in-Some-split_first.ensures.cases.0 (sym c.in_default-find.ensures),
    )

pub loop-dirent-preserved : goal.loop-dirent-preserved
loop-dirent-preserved c =
    let d = dirent_shown c.in-Some.dirent in
    (tt, tt, entry_skipped c.args.self.now.store c.args.directory _ _ _ _ _ d c.loop-dirent.invariant.2 c.in-Some.ensures.steps c.if-gives_node.ensures.1)

pub returns : goal.returns
returns c = no_entry_left c.args.self.now.store c.args.directory _ _ _ _ c.loop-dirent.invariant.2 c.in-None.ensures.steps.0
