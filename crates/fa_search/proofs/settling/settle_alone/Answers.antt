use Rattle.std.proofs.Common.{◌≡◌, ◌∙◌, ◌≤◌, List, length, refl, sym, subst, rules, arith}
use Rattle.std.proofs.lemmas.List.{length_push}
use Rattle.fa_ledger.specs.declared.calls.Calls.{Calls}
use Rattle.fa_check.specs.Verdicts.{AreMessagesOf}
use Rattle.fa_search.specs.parts.Configurations.{PlainConfiguration}
use Rattle.fa_search.proofs.LoopLemmas.{all_yielded, one_yielded}
use Rattle.fa_search.proofs.ReplyLemmas.{IsSettledSoFar, none_so_far, settled_alone, taken_more}
use Rattle.fa_search.proofs.settling.settle_alone.Goals as goal

pub loop-one-init : goal.loop-one-init
loop-one-init c = record {
  same = refl;
  budget = refl;
  fewer = rw c.new-settling.ensures.settled (omega arith);
  so_far = λ m first common at are only traced.
      rw (c.new-settling.ensures.work, c.new-settling.ensures.settled) (none_so_far m first common at c.args.asked.asked);
}

pub loop-one-preserved : goal.loop-one-preserved
loop-one-preserved c =
    let before = c.loop-one.invariant in
    record {
      same = c.settle_one.ensures.same ∙ before.same;
      budget = c.settle_one.ensures.budget ∙ before.budget;
      fewer = (let less = c.in_ok-settle_one.ensures.fewer in let more = length_push c.loop-one.yielded c.in-Some.one in omega (arith, less, more));
      so_far = λ m first common at are only traced.
          taken_more m first common at c.args.asked.asked only c.loop-one.yielded c.loop-one.settling.work.items c.loop-one.settling.settled.items c.in-Some.one
          (traced c.in-Some.one (one_yielded c.args.held.items _ c.loop-one.one-iterator c.next.new.self c.loop-one.yielded _ (search rules) (search rules) c.loop-one.yielded_by c.in-Some.one c.in-Some.is c.next.ensures.steps))
          (before.so_far m first common at are only traced) _ _ (c.in_ok-settle_one.ensures.taken m (subst (λ (calls : Calls). AreMessagesOf calls m) (sym before.same) are));
    }

pub returns : goal.returns
returns c =
    let before = c.loop-one.invariant in
    let all : c.loop-one.yielded ≡ c.args.held.items =
    all_yielded c.args.held.items _ c.loop-one.one-iterator c.next.new.self c.loop-one.yielded _ (search rules) (search rules) c.loop-one.yielded_by c.in-None.is c.next.ensures.steps in
    record {
      settled = λ m first common at are only held.
          settled_alone m first common at c.args.asked.asked c.args.held.items c.loop-one.settling.work.items c.loop-one.settling.settled.items held
          (subst (λ (xs : List PlainConfiguration). IsSettledSoFar m first common at c.args.asked.asked xs c.loop-one.settling.work.items c.loop-one.settling.settled.items) all
          (before.so_far m first common at are only held.traced));
      fewer = subst (λ (xs : List PlainConfiguration). length c.loop-one.settling.settled.items ≤ length xs) all before.fewer;
      spent = λ never. absurd cc;
      same = before.same;
      budget = before.budget;
      endless = λ never. absurd cc;
    }
