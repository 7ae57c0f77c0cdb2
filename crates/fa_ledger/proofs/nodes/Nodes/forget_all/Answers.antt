use Rattle.std.proofs.Common.{subst}
use Rattle.std.specs.Prelude.{nat_eq}
use Rattle.std.specs.Map.{lookup}
use Rattle.fa_ledger.specs.Counts.{total_taken}
use Rattle.fa_bodies.specs.Items.{items_in}
use Rattle.fa_ledger.specs.parts.Steps.{but_root, IsDropped}
use Rattle.fa_ledger.proofs.TakingLemmas.{taken_away}
use Rattle.fa_ledger.proofs.nodes.Nodes.forget_all.Goals as goal

pub returns-in-Ok-clause-taken : goal.returns-in-Ok-clause-taken
returns-in-Ok-clause-taken c = λ node.
    let taken = total_taken node (but_root (items_in c.args.bytes.now)) in
    taken_away taken (lookup (nat_eq node) c.args.self.now.known.entries) (lookup (nat_eq node) c.drop_all.new.self.known.entries) (c.in-Ok.ensures.fewer node) (λ l there. c.requires.some node l there)
    (subst (λ x. IsDropped taken x (lookup (nat_eq node) c.drop_all.new.self.known.entries)) (c.in-Ok.ensures.lowered node) (c.drop_all.ensures node))
