use Rattle.std.proofs.Common.{ℕ, ap, ◌∙◌, ◌++◌, ◌∷◌, [], arith}
use Rattle.std.proofs.lemmas.List.{length-append}
use Rattle.fa_ledger.proofs.TakingLemmas.{moved_on, one_fits, one_raised}
use Rattle.fa_ledger.proofs.nodes.Nodes.raise_all.Goals as goal

pub raise-requires : goal.raise-requires
raise-requires c = λ other.
    one_fits _ c.loop-id.invariant.2.0 _ c.args.self.now.known.entries c.loop-id.self.known.entries c.in-Some.id c.in-Some.nlookup c.args.done
    (c.loop-id.invariant.2.1 ∙ ap (λ ys. c.loop-id.invariant.2.0 ++ ys) c.in-Some.ensures.steps)
    (omega (arith, c.loop-id.invariant.2.2, c.if-left-eq0.false)) other c.requires c.loop-id.invariant.2.3

pub loop-id-preserved : goal.loop-id-preserved
loop-id-preserved c =
    let front = c.loop-id.invariant.2.0 in
    let item : ℕ × ℕ = (c.in-Some.id, c.in-Some.nlookup) in
    let whole = moved_on _ front _ _ item c.loop-id.invariant.2.1 c.in-Some.ensures.steps in (
      tt,
      tt,
      (
        front ++ item ∷ [],
        whole,
        omega (arith, length-append front (item ∷ []), c.loop-id.invariant.2.2, c.if-left-eq0.false),
        λ node. one_raised front item.0 item.1 node _ _ _ (c.loop-id.invariant.2.3 node) (c.raise.ensures node),
      ),
    )
