use Rattle.std.proofs.Common.{refl, sym, ap, ◌∙◌}
use Rattle.std.specs.Ordering.{is_eq}
use Rattle.fa_propose.proofs.FirstLemmas.{not_at, removed_other, removed_last, removed_first}
use Rattle.fa_propose.proofs.candidates.Candidates.remove.Goals as goal

pub invariant_of-self : goal.invariant_of-self
invariant_of-self c =
    removed_other c.self.inside c.self.invariant _ c.args.rank c.in-Some.first c.in-Some.is (ap is_eq (sym c.cmp.ensures) ∙ not_at c.cmp.result (sym c.is_ne.ensures ∙ c.if-is_ne.true)) refl
    c.remove.ensures.entries

pub invariant_of-self-then-is_empty : goal.invariant_of-self-then-is_empty
invariant_of-self-then-is_empty c = removed_last c.self.inside c.self.invariant _ c.in-Some.first c.in-Some.is refl refl (c.is_empty.ensures.0 c.if-is_empty.true)

pub invariant_of-self-else-is_empty : goal.invariant_of-self-else-is_empty
invariant_of-self-else-is_empty c =
    removed_first c.self.inside c.self.invariant _ c.in-Some.first c.in-Some.is c.is_empty.result c.is_empty.ensures.1 c.if-is_empty.false c.pop_first-self-inside.ensures.variant.1
    c.pop_first-self-inside.ensures.removal
