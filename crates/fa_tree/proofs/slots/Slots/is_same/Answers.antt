use Rattle.fa_tree.specs.parts.PlaceLaws.{place_cmp_total, places_apart}
use Rattle.fa_tree.specs.parts.SlotParts.{names_shown}
use Rattle.fa_tree.proofs.SameLemmas.{within_both}
use Rattle.fa_tree.proofs.slots.Slots.is_same.Goals as goal

pub returns-then-is_within : goal.returns-then-is_within
returns-then-is_within c = λ is.
    within_both place_cmp_total places_apart (names_shown c.args.self.now.table.entries) (names_shown c.args.other.now.table.entries)
    (c.is_within.ensures c.if-is_within.true) (c.is_within-then-is_within.ensures is)
