use Rattle.std.proofs.Common.{ℕ, sym, ap, ◌∙◌, ◌+◌, ◌++◌, ◌∷◌, [], refl}
use Rattle.std.specs.Prelude.{nat_eq}
use Rattle.std.specs.Map.{lookup}
use Rattle.std.proofs.lemmas.List.{length-append}
use Rattle.fa_bodies.specs.Items.{items_left}
use Rattle.fa_ledger.specs.Counts.{total_taken}
use Rattle.fa_ledger.specs.parts.Steps.{lowered, but_root}
use Rattle.fa_ledger.proofs.TakingLemmas.{moved_on, first_ones, none_lowered, one_lowered}
use Rattle.fa_ledger.proofs.nodes.Nodes.lower_all.Goals as goal

pub loop-id-init : goal.loop-id-init
loop-id-init c =
    (tt, tt, ([], sym c.items-id-items.ensures.computed ∙ ap items_left (sym c.into_iter-id-iterator.ensures.into_iter_gives), refl, none_lowered c.args.self.now.known.entries))

pub loop-id-preserved : goal.loop-id-preserved
loop-id-preserved c =
    let front = c.loop-id.invariant.2.0 in
    let item : ℕ × ℕ = (c.in-Some.id, c.in-Some.nlookup) in
    let whole = moved_on _ front _ _ item c.loop-id.invariant.2.1 c.in-Some.ensures.steps in (
      tt,
      tt,
      (
        front ++ item ∷ [],
        whole,
        length-append front (item ∷ []) ∙ ap (λ n. n + 1) c.loop-id.invariant.2.2,
        one_lowered front c.args.self.now.known.entries c.loop-id.self.known.entries c.lower.new.self.known.entries item.0 item.1 c.loop-id.invariant.2.3 c.in-Ok.ensures.ok c.in-Ok.ensures.lowered,
      ),
    )

pub returns-in-Err-clause-front_lowered : goal.returns-in-Err-clause-front_lowered
returns-in-Err-clause-front_lowered c = λ node.
    ap (λ entries. lookup (nat_eq node) entries) c.in-Err.ensures.unchanged ∙ c.loop-id.invariant.2.3.lowered node
    ∙ ap (λ items. lowered (total_taken node (but_root items)) (lookup (nat_eq node) c.args.self.now.known.entries)) (sym (first_ones _ c.loop-id.invariant.2.0 _ _ c.loop-id.invariant.2.1 c.loop-id.invariant.2.2))
