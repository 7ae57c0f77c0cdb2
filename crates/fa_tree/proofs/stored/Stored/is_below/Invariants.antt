use Rattle.std.proofs.Common.{ℕ, ◌+◌, ◌<◌}
use Rattle.std.specs.Prelude.{◌↔◌}
use Rattle.fa_tree.specs.State.{IsDirectory, IsBelow}
use Rattle.fa_tree.specs.parts.ShapeParts.{Climbs}
use Rattle.fa_tree.proofs.stored.Stored.is_below.Given as goal

abbrev pub invariant-loop : goal.invariant-loop
invariant-loop l =
    IsDirectory l.self.store l.at × (IsBelow l.self.store l.above l.fn.below ↔ IsBelow l.self.store l.above l.at)
    × ((left : ℕ) × Climbs l.self.store l.at left × (left + l.counter < l.end))
