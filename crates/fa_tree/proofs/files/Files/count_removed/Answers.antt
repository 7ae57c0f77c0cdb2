use Rattle.std.proofs.Common.{◌≡◌, ◌+◌, ◌-◌, refl, arith}
use Rattle.fa_tree.specs.parts.CountParts.{counts_of}
use Rattle.fa_tree.proofs.CountLemmas.{part_kept, some_links, some_inside, removed_counted}
use Rattle.fa_tree.proofs.files.Files.count_removed.Goals as goal

pub remove_link-requires : goal.remove_link-requires
remove_link-requires c = some_links c.requires.names (counts_of c.args.self.now.by_id.entries) c.requires.counted (c.args.directory, c.requires.name) c.args.file c.requires.at

pub remove_inside-requires : goal.remove_inside-requires
remove_inside-requires c =
    let some = some_inside c.requires.names (counts_of c.args.self.now.by_id.entries) c.requires.counted (c.args.directory, c.requires.name) c.args.file c.requires.at in
    let is = part_kept _ _ c.args.file _ c.remove_link.ensures.counts (λ c. c.inside) refl c.args.directory in
    omega (arith, some, is)

pub returns-clause-counted : goal.returns-clause-counted
returns-clause-counted c = λ names name there.
    let old = counts_of c.args.self.now.by_id.entries in
    let between = counts_of c.remove_link.new.self.by_id.entries in
    let some = some_links c.requires.names old c.requires.counted (c.args.directory, c.requires.name) c.args.file c.requires.at in
    let has = some_inside c.requires.names old c.requires.counted (c.args.directory, c.requires.name) c.args.file c.requires.at in
    let is = part_kept old between c.args.file _ c.remove_link.ensures.counts (λ c. c.inside) refl c.args.directory in
    let links : ((old c.args.file).links - 1) + 1 ≡ (old c.args.file).links = omega (arith, some) in
    let inside : ((between c.args.directory).inside - 1) + 1 ≡ (between c.args.directory).inside = omega (arith, has, is) in
    removed_counted old between (counts_of c.remove_inside.new.self.by_id.entries) c.args.directory c.args.file _ _
    c.remove_link.ensures.counts c.remove_inside.ensures.counts
    links refl refl inside names name there
