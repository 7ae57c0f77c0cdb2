use Rattle.std.proofs.Common.{refl, arith}
use Rattle.fa_tree.specs.parts.CountParts.{counts_of}
use Rattle.fa_tree.proofs.CountLemmas.{part_kept, few_links, few_inside, added_counted}
use Rattle.fa_tree.proofs.files.Files.count_added.Goals as goal

pub add_link-requires-clause-few : goal.add_link-requires-clause-few
add_link-requires-clause-few c =
    let at = c.requires.counted.0 in
    let few = few_links at.names (counts_of c.args.self.now.by_id.entries) at.counted c.args.file in
    omega (arith, few, c.requires.counted.1)

pub add_inside-requires-clause-few : goal.add_inside-requires-clause-few
add_inside-requires-clause-few c =
    let at = c.requires.counted.0 in
    let few = few_inside at.names (counts_of c.args.self.now.by_id.entries) at.counted c.args.directory in
    let is = part_kept _ _ c.args.file _ c.add_link.ensures.counts (λ c. c.inside) refl c.args.directory in
    omega (arith, few, is, c.requires.counted.1)

pub returns-clause-counted : goal.returns-clause-counted
returns-clause-counted c = λ names name free.
    added_counted (counts_of c.args.self.now.by_id.entries) (counts_of c.add_link.new.self.by_id.entries) (counts_of c.add_inside.new.self.by_id.entries) c.args.directory c.args.file _ _
    c.add_link.ensures.counts c.add_inside.ensures.counts refl refl refl refl names name free
