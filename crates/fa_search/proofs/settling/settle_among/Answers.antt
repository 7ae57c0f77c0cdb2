use Rattle.std.proofs.Common.{◌≡◌, ◌∙◌, ◌<◌, ◌+◌, [], List, length, take, refl, sym, subst, ap, rules, arith}
use Rattle.std.proofs.lemmas.List.{length-append, take_all}
use Rattle.fa_ledger.specs.declared.calls.Calls.{Calls}
use Rattle.fa_check.specs.Verdicts.{AreMessagesOf}
use Rattle.fa_search.specs.parts.Configurations.{PlainConfiguration, AreSpent}
use Rattle.fa_search.proofs.LoopLemmas.{all_yielded, one_yielded, there_at}
use Rattle.fa_search.proofs.ReplyLemmas.{AreTakenIn, taken_still, taken_in_more, none_settling_by, spent_next, settled_among}
use Rattle.fa_search.proofs.settling.settle_among.Goals as goal

pub loop-one-init : goal.loop-one-init
loop-one-init c = record {
  same = refl;
  budget = refl;
  taken = λ m are x has. absurd (omega (arith, has.1));
  settling = λ m first common are traced.
      rw (c.new-settling.ensures.work, c.new-settling.ensures.settled) (none_settling_by m first common c.args.flight.now.at c.args.asked.asked);
}

pub loop-one-preserved : goal.loop-one-preserved
loop-one-preserved c =
    let before = c.loop-one.invariant in
    record {
      same = c.take_in.ensures.same ∙ before.same;
      budget = c.take_in.ensures.budget ∙ before.budget;
      taken = λ m are.
          taken_in_more m c.args.flight.now.at c.loop-one.yielded c.loop-one.settling.work.items c.loop-one.settling.settled.items c.take_in.new.self.work.items c.take_in.new.self.settled.items c.in-Some.one
          c.in_ok-take_in.ensures.grown (c.in_ok-take_in.ensures.taken m (subst (λ (calls : Calls). AreMessagesOf calls m) (sym before.same) are)) (before.taken m are);
      settling = λ m first common are traced.
          c.in_ok-take_in.ensures.settling m first common [] (subst (λ (calls : Calls). AreMessagesOf calls m) (sym before.same) are)
          (traced c.in-Some.one (one_yielded c.args.held.items _ c.loop-one.one-iterator c.next.new.self c.loop-one.yielded _ (search rules) (search rules) c.loop-one.yielded_by c.in-Some.one c.in-Some.is c.next.ensures.steps))
          (before.settling m first common are traced);
    }

pub loop-next-init : goal.loop-next-init
loop-next-init c =
    let before = c.loop-one.invariant in
    let all : c.loop-one.yielded ≡ c.args.held.items =
    all_yielded c.args.held.items _ c.loop-one.one-iterator c.next.new.self c.loop-one.yielded _ (search rules) (search rules) c.loop-one.yielded_by c.in-None.is c.next.ensures.steps in
    record {
      within = omega arith;
      same = before.same;
      budget = before.budget;
      taken = λ m are. subst (λ (xs : List PlainConfiguration). AreTakenIn m c.args.flight.now.at xs c.loop-one.settling.work.items c.loop-one.settling.settled.items) all (before.taken m are);
      settling = before.settling;
      spent = λ m are x has. absurd (omega (arith, has.1));
    }

pub loop-next-preserved : goal.loop-next-preserved
loop-next-preserved c =
    let before = c.loop-next.invariant in
    let work = c.loop-next.settling.work.items in
    let settled = c.loop-next.settling.settled.items in
    let more = c.try_from.new.self.work.items in
    let further = c.try_from.new.self.settled.items in
    let grown = c.in_ok-try_from.ensures.grown in
    let below : c.loop-next.next < length work = omega arith in
    let there = there_at work c.loop-next.next below in
    record {
      within = (let is : length more ≡ length work + length grown.behind = ap length grown.work_is ∙ length-append work grown.behind in omega (arith, is, below));
      same = c.try_from.ensures.same ∙ before.same;
      budget = c.try_from.ensures.budget ∙ before.budget;
      taken = λ m are. taken_still m c.args.flight.now.at c.args.held.items work settled more further grown (before.taken m are);
      settling = λ m first common are traced.
          c.in_ok-try_from.ensures.settling m first common [] (subst (λ (calls : Calls). AreMessagesOf calls m) (sym before.same) are) (before.settling m first common are traced);
      spent = λ m are.
          spent_next m c.args.flight.now.at c.loop-next.next there.0 work settled more further grown there.1 (before.spent m are)
          (c.in_ok-try_from.ensures.spent m there.0 (subst (λ (calls : Calls). AreMessagesOf calls m) (sym before.same) are) there.1);
    }

pub returns : goal.returns
returns c =
    let before = c.loop-next.invariant in
    let work = c.loop-next.settling.work.items in
    let settled = c.loop-next.settling.settled.items in
    let whole : take c.loop-next.next work ≡ work = take_all c.loop-next.next work (omega arith) in
    record {
      settled = λ m first common are held.
          settled_among m first common c.args.flight.now.at c.args.asked.asked c.args.held.items work settled held (before.taken m are) (before.settling m first common are held.traced)
          (subst (λ (those : List PlainConfiguration). AreSpent m c.args.flight.now.at those work settled) whole (before.spent m are));
      same = before.same;
      budget = before.budget;
      endless = λ never. absurd cc;
    }
