use Rattle.std.proofs.Common.{ap, rules, sym}
use Rattle.std.specs.Prelude.{not, nat_eq}
use Rattle.fa_tree.specs.declared.files.Counts.{Counts}
use Rattle.fa_tree.specs.parts.CountParts.{counts_of}
use Rattle.fa_tree.specs.parts.StoredView.{stored_shown}
use Rattle.fa_tree.proofs.CountLemmas.{tells_named}
use Rattle.fa_tree.proofs.QueryLemmas.{linked_by}
use Rattle.fa_tree.proofs.stored.Stored.is_linked.Goals as goal

pub returns-else-eq : goal.returns-else-eq
returns-else-eq c =
    rw (sym c.self.view_is)
    (linked_by (stored_shown c.self.inside).store c.args.file (not (nat_eq c.counts.result.links 0))
    (tells_named c.self.inside.names.names (counts_of c.self.inside.files.by_id.entries) c.self.invariant.3 c.counts.result.links c.args.file (ap (λ (n : Counts). n.links) c.counts.ensures))
    (search rules))
