use Rattle.std.proofs.Common.{◌≡◌, ◌∙◌, ◌++◌, List, refl, sym, subst, rules}
use Rattle.std.specs.Prelude.{Contains}
use Rattle.std.proofs.lemmas.List.{append-nil}
use Rattle.fa_ledger.specs.declared.calls.Calls.{Calls}
use Rattle.fa_check.specs.Verdicts.{AreMessagesOf}
use Rattle.fa_search.specs.parts.Configurations.{PlainConfiguration}
use Rattle.fa_search.proofs.LoopLemmas.{all_yielded, one_yielded}
use Rattle.fa_search.proofs.ReplyLemmas.{IsLeastSoFar, none_least, least_more, least_of_all, kept_more}
use Rattle.fa_search.proofs.settling.least_code.Goals as goal

pub loop-one-init : goal.loop-one-init
loop-one-init c = record {
  same = refl;
  so_far = λ m are none. none_least m c.args.asked.asked;
  kept = λ m are none. sym (append-nil c.args.kept.now.items);
}

pub loop-one-preserved : goal.loop-one-preserved
loop-one-preserved c =
    let before = c.loop-one.invariant in
    record {
      same = c.code_from-code.ensures.same ∙ before.same;
      so_far = λ m are none.
          let there : Contains c.args.work.items c.in-Some.one =
          one_yielded c.args.work.items _ c.loop-one.one-iterator c.next.new.self c.loop-one.yielded _ (search rules) (search rules) c.loop-one.yielded_by c.in-Some.one c.in-Some.is c.next.ensures.steps in
          least_more m c.args.asked.asked c.loop-one.yielded c.in-Some.one c.loop-one.least c.in_ok-code.field-0 c.min-least.result (search rules)
          (c.in_ok-code.ensures.refused m (subst (λ (calls : Calls). AreMessagesOf calls m) (sym before.same) are) (none c.in-Some.one there))
          c.min-least.ensures (before.so_far m are none);
      kept = λ m are none.
          let there : Contains c.args.work.items c.in-Some.one =
          one_yielded c.args.work.items _ c.loop-one.one-iterator c.next.new.self c.loop-one.yielded _ (search rules) (search rules) c.loop-one.yielded_by c.in-Some.one c.in-Some.is c.next.ensures.steps in
          let still : c.code_from-code.new.one ≡ c.in-Some.one = c.in_ok-code.ensures.still m (subst (λ (calls : Calls). AreMessagesOf calls m) (sym before.same) are) (none c.in-Some.one there) in
          kept_more c.args.kept.now.items c.loop-one.yielded c.loop-one.kept.items c.push.new.list.items c.in-Some.one c.code_from-code.new.one still c.in_ok-push.ensures (before.kept m are none);
    }

pub returns : goal.returns
returns c =
    let before = c.loop-one.invariant in
    let all : c.loop-one.yielded ≡ c.args.work.items =
    all_yielded c.args.work.items _ c.loop-one.one-iterator c.next.new.self c.loop-one.yielded _ (search rules) (search rules) c.loop-one.yielded_by c.in-None.is c.next.ensures.steps in
    record {
      least = λ m are some none.
          least_of_all m c.args.asked.asked c.args.work.items c.loop-one.least some
          (subst (λ (xs : List PlainConfiguration). IsLeastSoFar m c.args.asked.asked xs c.loop-one.least) all (before.so_far m are none));
      kept = λ m are none. subst (λ (xs : List PlainConfiguration). c.loop-one.kept.items ≡ c.args.kept.now.items ++ xs) all (before.kept m are none);
      same = before.same;
    }
