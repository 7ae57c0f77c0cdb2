use Rattle.std.proofs.Common.{ℕ, List, ap, subst}
use Rattle.std.specs.Prelude.{◌↔◌, IsTrue, nat_eq}
use Rattle.fa_tree.specs.State.{IsFree}
use Rattle.fa_tree.specs.declared.files.Counts.{Counts}
use Rattle.fa_tree.specs.parts.CountParts.{counts_of}
use Rattle.fa_tree.specs.parts.StoredParts.{StoredShown}
use Rattle.fa_tree.proofs.CountLemmas.{tells_empty}
use Rattle.fa_tree.proofs.stored.Stored.has_no_names.Goals as goal

pub returns : goal.returns
returns c =
    subst (λ (t : StoredShown). IsTrue (nat_eq c.counts.result.inside 0) ↔ ((name : List ℕ) → IsFree t.store c.args.directory name)) c.self.view_is
    (tells_empty c.self.inside.names.names (counts_of c.self.inside.files.by_id.entries) c.self.invariant.3 c.counts.result.inside c.args.directory (ap (λ (n : Counts). n.inside) c.counts.ensures))
