use Rattle.std.specs.Prelude.{option_map}
use Rattle.fa_tree.proofs.TellingLemmas.{LeastTo}
use Rattle.fa_tree.proofs.slots.Slots.least_of.Given as goal

-- the least place so far is the least of the entries before the index
abbrev pub invariant-loop-index : goal.invariant-loop-index
invariant-loop-index l = LeastTo l.self.table.entries l.file l.index (option_map (λ p. p.now) l.least)
