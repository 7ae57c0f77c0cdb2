use Rattle.std.proofs.Common.{ℕ, ◌++◌, ◌∷◌, []}
use Rattle.fa_ledger.proofs.TakingLemmas.{moved_on, one_dropped}
use Rattle.fa_ledger.proofs.nodes.Nodes.drop_all.Goals as goal

pub loop-id-preserved : goal.loop-id-preserved
loop-id-preserved c =
    let front = c.loop-id.invariant.2.0 in
    let item : ℕ × ℕ = (c.in-Some.id, c.in-Some.field-0-1) in
    let whole = moved_on _ front _ _ item c.loop-id.invariant.2.1 c.in-Some.ensures.steps in
    (tt, tt, (front ++ item ∷ [], whole, λ node. one_dropped front item.0 item.1 node _ _ _ (c.loop-id.invariant.2.2 node) (c.drop_forgotten.ensures node)))
