use Rattle.std.proofs.Common.{ℕ, ◌<◌, false, take, get_or}
use Rattle.std.specs.Fn.{FnReturnsAt}
use Rattle.fa_tree.specs.parts.MemberParts.{members_of}
use Rattle.fa_tree.proofs.StayedLemmas.{PassesAt}
use Rattle.fa_tree.proofs.open_names.OpenNames.find_stayed.Given as goal

-- the test answered false at each name that stayed, of the places that were passed
abbrev pub invariant-loop-index : goal.invariant-loop-index
invariant-loop-index g l =
    (k : ℕ) → k < l.index-index
    → PassesAt l.self.directory l.self.at (λ name b. FnReturnsAt g.F.Fn l.is_sought name false) l.self.slots.now.table.entries
    (get_or (take l.self.old_places (members_of l.self.slots.now.members.table.entries l.self.directory)) k 0)
