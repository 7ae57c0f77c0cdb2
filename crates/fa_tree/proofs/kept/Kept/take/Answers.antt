use Rattle.std.proofs.Common.{◌≡◌, ◌+◌, Some, nat_eq, sym, ◌∙◌, arith}
use Rattle.std.specs.Map.{lookup}
use Rattle.fa_tree.specs.parts.KeptParts.{size_of_listing, size_of_listings}
use Rattle.fa_tree.proofs.KeptLemmas.{sum_taken}
use Rattle.fa_tree.proofs.ReplayLemmas.{left_there}
use Rattle.fa_tree.proofs.kept.Kept.take.Goals as goal
use Rattle.fa_tree.proofs.kept.Kept.take.Goals.{After-size}

-- what is left is as much less as what was taken away
less : (c : After-size) → size_of_listings c.swap_remove.new.self.entries + c.size.result ≡ size_of_listings c.args.self.now.by_handle.entries
less c =
    let was : lookup (nat_eq c.args.handle) c.args.self.now.by_handle.entries ≡ Some c.in_ok-listed.listed = sym c.swap_remove.ensures.value ∙ c.in_ok-listed.was in
    rw (c.swap_remove.ensures.entries, c.size.ensures)
    (sum_taken size_of_listing (nat_eq c.args.handle) c.args.self.now.by_handle.entries c.in_ok-listed.listed was)

pub overflow_sub-self : goal.overflow_sub-self
overflow_sub-self c = omega (arith, less c, c.args.self.now.counted)

pub invariant_of-self-2 : goal.invariant_of-self-2
invariant_of-self-2 c = record { counted = omega (arith, less c, c.args.self.now.counted) }

pub returns-clause-left : goal.returns-clause-left
returns-clause-left c = left_there c.args.self.now.by_handle.entries c.swap_remove.new.self.entries c.args.handle c.swap_remove.ensures.updates.0
