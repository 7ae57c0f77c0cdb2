use Rattle.std.proofs.Common.{[], sym, subst}
use Rattle.fa_tree.specs.parts.BirthParts.{AreOldPlaces}
use Rattle.fa_tree.proofs.BirthLemmas.{none_opened}
use Rattle.fa_tree.proofs.names.Names.new.Goals as goal

pub invariant_of-result : goal.invariant_of-result
invariant_of-result c = rw (c.new.ensures) (
  λ place. tt,
  subst (AreOldPlaces [] c.new.result.members.table.entries) (sym c.new-2.ensures) (none_opened [] c.new.result.members.table.entries),
)
