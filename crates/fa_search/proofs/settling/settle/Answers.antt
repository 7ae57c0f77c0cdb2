use Rattle.std.proofs.Common.{refl}
use Rattle.std.proofs.lemmas.Result.{IfOk-weaker}
use Rattle.fa_search.proofs.LoopLemmas.{not_true}
use Rattle.fa_search.proofs.ReplyLemmas.{answered_placed, alone_only}
use Rattle.fa_search.proofs.settling.settle.Goals as goal

pub settle_alone-requires : goal.settle_alone-requires
settle_alone-requires c = answered_placed c.args.tries.now.replay.list c.args.flight.now.at c.args.asked c.requires.in_flight c.requires.answered

pub returns-then-is_alone : goal.returns-then-is_alone
returns-then-is_alone c = record {
  settled = IfOk-weaker c.settle_alone.result _ _
      (λ settling is m first common are held.
      is m first common c.args.flight.now.at are
      (alone_only m c.args.tries.now.replay.list are.are c.args.flight.now.at c.args.asked c.requires.in_flight c.requires.answered c.args.flight.now refl c.requires.flight (c.is_alone.ensures.0 c.if-is_alone.true))
      held)
      c.settle_alone.ensures.settled;
  fewer = IfOk-weaker c.settle_alone.result _ _ (λ settling less alone. less) c.settle_alone.ensures.fewer;
  spent = λ spent alone. c.settle_alone.ensures.spent spent;
  same = c.settle_alone.ensures.same;
  budget = c.settle_alone.ensures.budget;
  endless = c.settle_alone.ensures.endless;
}

pub returns : goal.returns
returns c = record {
  settled = c.settle_among.ensures.settled;
  fewer = IfOk-weaker c.settle_among.result _ _ (λ settling is alone. absurd (not_true c.is_alone.result c.if-is_alone.false (c.is_alone.ensures.1 alone))) c.settle_among.ensures.settled;
  spent = λ spent alone. absurd (not_true c.is_alone.result c.if-is_alone.false (c.is_alone.ensures.1 alone));
  same = c.settle_among.ensures.same;
  budget = c.settle_among.ensures.budget;
  endless = c.settle_among.ensures.endless;
}
