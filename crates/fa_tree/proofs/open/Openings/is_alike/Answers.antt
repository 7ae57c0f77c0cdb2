use Rattle.std.specs.FinMap as map
use Rattle.fa_tree.specs.Alike.{IsInUse}
use Rattle.fa_tree.specs.parts.NameViews.{handles_shown}
use Rattle.fa_tree.proofs.SameLemmas.{such_both}
use Rattle.fa_tree.proofs.open.Openings.is_alike.Goals as goal

pub returns-then-is_alike_within : goal.returns-then-is_alike_within
returns-then-is_alike_within c = λ is.
    such_both (IsInUse c.args.in_use.now) (handles_shown c.args.slots.now.table.entries 0 map.empty c.args.self.now)
    (handles_shown c.args.other_slots.now.table.entries 0 map.empty c.args.other.now)
    (c.is_alike_within.ensures c.if-is_alike_within.true) (c.is_alike_within-then-is_alike_within.ensures is)
