use Rattle.std.proofs.Common.{subst}
use Rattle.fa_tree.specs.State.{TreeState}
use Rattle.fa_audit.specs.parts.Searching.{known_by, IsKnownOf}
use Rattle.fa_audit.proofs.ShortestLemmas.{known_is}
use Rattle.fa_audit.proofs.shortest.known_of_calls.Goals as goal

pub returns : goal.returns
returns g c = λ m are.
    let known = known_is m c.in_ok-copy.field-0 c.in_ok-finding.finding (c.in_ok-finding.ensures.found m are) in
    rw c.known_by.ensures (subst (λ (t : TreeState). IsKnownOf m t (known_by c.in_ok-finding.finding)) c.in_ok-copy.ensures known)
