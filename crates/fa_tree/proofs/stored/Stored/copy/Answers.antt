use Rattle.fa_tree.specs.parts.CountParts.{counts_of}
use Rattle.fa_tree.proofs.CountLemmas.{same_counted}
use Rattle.fa_tree.proofs.stored.Stored.copy.Goals as goal

pub invariant_of-result : goal.invariant_of-result
invariant_of-result c = rw (c.in_ok-names.ensures, c.in_ok-files.ensures.files, c.in_ok-parents.ensures) (
  c.self.invariant.0,
  c.self.invariant.1,
  c.self.invariant.2,
  same_counted c.self.inside.names.names (counts_of c.self.inside.files.by_id.entries) (counts_of c.in_ok-files.files.by_id.entries) c.in_ok-files.ensures.counts c.self.invariant.3,
)
