use Rattle.std.proofs.Common.{◌<◌, ◌+◌, ◌-◌, length, sym, subst, arith}
use Rattle.std.proofs.lemmas.Option.{slice_get_within}
use Rattle.fa_ledger.specs.Calls.{call_shown}
use Rattle.fa_propose.specs.parts.Ready.{IsReady}
use Rattle.fa_propose.proofs.ReadyLemmas.{one_more, end_seen, front_seen}
use Rattle.fa_propose.proofs.ready.Ready.admit.Goals as goal

pub loop-self-init : goal.loop-self-init
loop-self-init c = λ messages es is front so_far. so_far

pub loop-self-smaller : goal.loop-self-smaller
loop-self-smaller c =
    let there = c.call-call.ensures in
    let within = slice_get_within c.args.calls.now.list c.loop-self.self.seen (call_shown c.call-call.result) there in
    let seen = c.in_ok-offer.ensures.seen in
    let less : length c.args.calls.now.list - (c.offer.new.self.seen + 1) < length c.args.calls.now.list - c.loop-self.self.seen = omega (arith, within, seen) in
    less

pub loop-self-preserved : goal.loop-self-preserved
loop-self-preserved c = λ messages es is front so_far.
    let plain = c.args.calls.now.list in
    let there = c.call-call.ensures in
    subst (λ n. IsReady messages plain es (n + 1) c.offer.new.self.candidates) (sym c.in_ok-offer.ensures.seen)
    (one_more messages plain is.are es c.args.front front c.loop-self.self.seen c.loop-self.self.candidates c.offer.new.self.candidates (call_shown c.call-call.result) there
    (omega (arith, c.if-front-call.false)) c.in_ok-offer.ensures.offered (c.loop-self.invariant messages es is front so_far))

pub returns-then-front-call : goal.returns-then-front-call
returns-then-front-call c = λ messages es is front so_far.
    let plain = c.args.calls.now.list in
    let there = c.call-call.ensures in (
      c.loop-self.invariant messages es is front so_far,
      front_seen messages plain is.are es c.args.front front c.loop-self.self.seen (call_shown c.call-call.result) there c.if-front-call.true,
    )

pub returns-after-loop-self : goal.returns-after-loop-self
returns-after-loop-self c = λ messages es is front so_far.
    let plain = c.args.calls.now.list in (
      c.loop-self.invariant messages es is front so_far,
      end_seen messages plain is.are es c.args.front front c.loop-self.self.seen (omega (arith, c.loop-self-test.false, c.len.ensures)),
    )
