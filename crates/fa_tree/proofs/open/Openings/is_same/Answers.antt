use Rattle.std.specs.Cmp.{nat_cmp_total}
use Rattle.std.specs.FinMap as map
use Rattle.std.specs.FinMap.{nat_cmp-IsAntisymmetric}
use Rattle.fa_tree.specs.parts.NameViews.{handles_shown}
use Rattle.fa_tree.proofs.SameLemmas.{within_both}
use Rattle.fa_tree.proofs.open.Openings.is_same.Goals as goal

pub returns-then-is_within : goal.returns-then-is_within
returns-then-is_within c = λ is.
    within_both nat_cmp_total nat_cmp-IsAntisymmetric (handles_shown c.args.slots.now.table.entries 0 map.empty c.args.self.now)
    (handles_shown c.args.other_slots.now.table.entries 0 map.empty c.args.other.now)
    (c.is_within.ensures c.if-is_within.true) (c.is_within-then-is_within.ensures is)
