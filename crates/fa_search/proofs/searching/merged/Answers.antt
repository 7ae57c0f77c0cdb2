use Rattle.std.proofs.Common.{◌∙◌, ℕ, length, refl, subst, arith}
use Rattle.std.proofs.lemmas.List.{length_push}
use Rattle.fa_tree.specs.Alike.{IsInUse}
use Rattle.fa_search.specs.parts.Configurations.{PlainConfiguration}
use Rattle.fa_search.specs.parts.Settling.{IsPushedNew}
use Rattle.fa_search.proofs.MergedLemmas.{merged_none, merged_more, pushed_length}
use Rattle.fa_search.proofs.searching.merged.Goals as goal

pub loop-one-init : goal.loop-one-init
loop-one-init c = record {
  merged = rw c.new-different.ensures.items (merged_none (IsInUse c.args.in_use.now));
  fewer = rw c.new-different.ensures.items (omega arith);
  budget = refl;
}

pub loop-one-preserved : goal.loop-one-preserved
loop-one-preserved c =
    let before = c.loop-one.invariant in
    let Counts : ℕ → Type 0 = IsInUse c.args.in_use.now in
    let pushed : IsPushedNew Counts c.loop-one.different.items c.in-Some.one c.push_new.new.list.items =
    subst (λ (x : PlainConfiguration). IsPushedNew Counts c.loop-one.different.items x c.push_new.new.list.items) c.reckon.ensures c.in_ok-added.ensures in
    record {
      merged = merged_more Counts c.loop-one.yielded c.loop-one.different.items c.in-Some.one _ pushed before.merged;
      fewer = (let more = length_push c.loop-one.yielded c.in-Some.one in let few = pushed_length Counts c.loop-one.different.items _ c.in-Some.one (length c.loop-one.yielded) pushed before.fewer in omega (arith, more, few));
      budget = c.spend.ensures.budget ∙ before.budget;
    }
