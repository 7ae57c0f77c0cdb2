use Rattle.std.proofs.Common.{ap}
use Rattle.fa_tree.specs.Building.{empty_tree}
use Rattle.fa_tree.specs.parts.CountParts.{counts_of}
use Rattle.fa_tree.specs.parts.ParentParts.{parent_noted}
use Rattle.fa_tree.proofs.CountLemmas.{none_counted}
use Rattle.fa_tree.proofs.ParentLemmas.{no_parents, no_notes}
use Rattle.fa_tree.proofs.ShapeLemmas.{empty_is_tree}
use Rattle.fa_tree.proofs.stored.Stored.new.Goals as goal

pub invariant_of-result : goal.invariant_of-result
invariant_of-result c =
    let noted = parent_noted c.new-3.result.table.entries in
    rw (c.new-2.ensures, c.in_ok-files.ensures.files) (
      empty_is_tree c.args.bits,
      no_parents c.args.bits noted,
      no_notes (empty_tree c.args.bits).store noted (λ of. ap (λ table. parent_noted table of) c.new-3.ensures),
      none_counted (counts_of c.in_ok-files.files.by_id.entries) c.in_ok-files.ensures.counts,
    )
