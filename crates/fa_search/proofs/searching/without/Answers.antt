use Rattle.std.proofs.Common.{◌≡◌, List, length, subst, rules}
use Rattle.std.proofs.lemmas.List.{length-append}
use Rattle.fa_search.specs.parts.Configurations.{PlainConfiguration}
use Rattle.fa_search.specs.parts.Settling.{AreWithoutBy}
use Rattle.fa_search.proofs.LoopLemmas.{all_yielded}
use Rattle.fa_search.proofs.SearchLemmas.{without_none, without_more}
use Rattle.fa_search.proofs.searching.without.Goals as goal

pub loop-one-init : goal.loop-one-init
loop-one-init c =
    record {
      without = rw c.new-held.ensures.items (without_none c.args.asked);
      length = search rules;
    }

pub loop-one-preserved : goal.loop-one-preserved
loop-one-preserved c =
    record {
      without = rw (c.in_ok-push.ensures.items) (without_more c.loop-one.yielded c.loop-one.held.items c.args.asked c.in-Some.one c.forget.new.self c.forget.ensures.without c.forget.ensures.entries c.loop-one.invariant.without);
      length = (let items = c.in_ok-push.ensures.items in search (rules, length-append));
    }

pub returns : goal.returns
returns c =
    let all : c.loop-one.yielded ≡ c.args.settled.items = all_yielded c.args.settled.items _ c.loop-one.one-iterator c.next.new.self c.loop-one.yielded _ (search rules) (search rules) c.loop-one.yielded_by c.in-None.is c.next.ensures.steps in
    record {
      without = subst (λ (xs : List PlainConfiguration). AreWithoutBy xs c.args.asked c.loop-one.held.items) all c.loop-one.invariant.without;
      length = subst (λ (xs : List PlainConfiguration). length c.loop-one.held.items ≡ length xs) all c.loop-one.invariant.length;
    }
