use Rattle.std.proofs.Common.{List, length}
use Rattle.fa_bodies.specs.Dirents.{PlainDirent, AreEntries}
use Rattle.fa_bodies.proofs.walking.behind_entries.Given as goal

-- entries lead to what is left
abbrev pub invariant-loop-after : goal.invariant-loop-after
invariant-loop-after l = (ds : List PlainDirent) × AreEntries l.plus l.bytes ds l.rest

abbrev pub decreases-loop-after : goal.decreases-loop-after
decreases-loop-after l = length l.rest
