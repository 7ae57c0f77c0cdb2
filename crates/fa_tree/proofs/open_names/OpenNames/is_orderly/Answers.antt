use Rattle.std.proofs.Common.{◌++◌}
use Rattle.fa_bodies.specs.Listing.{entries_left}
use Rattle.fa_tree.specs.Directories.{times_listed}
use Rattle.fa_tree.specs.parts.OpenParts.{open_of}
use Rattle.fa_tree.proofs.OrderlyLemmas.{not_once, once_and}
use Rattle.fa_tree.proofs.open_names.OpenNames.is_orderly.Goals as goal

pub returns-then-none_twice : goal.returns-then-none_twice
returns-then-none_twice c = λ so_far are.
    let entries = entries_left c.args.entries in
    once_and (open_of c.args.self.now) so_far entries c.args.size c.is_whole.result
    (c.if-none_twice.ensures (λ name. times_listed name (so_far ++ entries)) are) (c.is_whole.ensures (λ name. times_listed name (so_far ++ entries)) are)

pub returns-else-none_twice : goal.returns-else-none_twice
returns-else-none_twice c = λ so_far are.
    let entries = entries_left c.args.entries in
    not_once (open_of c.args.self.now) so_far entries c.args.size c.none_twice.result c.if-none_twice.false (c.none_twice.ensures (λ name. times_listed name (so_far ++ entries)) are)
