use Rattle.std.proofs.Common.{◌∙◌, List, [], ◌∷◌, ◌++◌, sym, subst, arith}
use Rattle.std.specs.Prelude.{IfSome}
use Rattle.fa_capture.specs.Message.{Message}
use Rattle.fa_ledger.specs.declared.calls.Calls.{Calls}
use Rattle.fa_order.specs.declared.entry.Entry.{Entry}
use Rattle.fa_check.specs.Verdicts.{AreMessagesOf}
use Rattle.fa_check.specs.Replays.{IsPlacing, IsReplayed}
use Rattle.fa_propose.specs.parts.Ready.{IsPlacedNext, IsGoneOnSo}
use Rattle.fa_propose.proofs.ProposeLemmas.{IsProposing, none_proposed, all_proposed, stuck_proposed, one_proposed, one_less}
use Rattle.fa_propose.proofs.proposing.guess.Goals as goal
use Rattle.fa_propose.proofs.proposing.guess.Goals.{else-loop-calls-test, then-loop-calls-test+in_ok-admit+in_ok-entry+in_default}

pub loop-calls-init : goal.loop-calls-init
loop-calls-init c = (
  c.new-replay.ensures,
  none_proposed c.args.calls.now c.args.tree.now c.new-order.result.items c.in_ok-placing.placing c.new-ready.result.seen c.new-ready.result.candidates c.new-order.ensures.items
      (c.in_ok-placing.ensures c.args.tree.now) (λ messages. c.new-ready.ensures messages c.args.calls.now),
)

pub place_next-requires : goal.place_next-requires
place_next-requires c = subst (λ (x : Calls). IsPlacing x.list x.messages c.loop-calls.placing) (sym c.loop-calls.invariant.0) c.loop-calls.invariant.1.replayed.shape

pub loop-calls-smaller : goal.loop-calls-smaller
loop-calls-smaller c =
    let es = c.loop-calls.order.items in
    let replayed : IsReplayed c.args.calls.now c.args.tree.now c.place_next.new.tree (es ++ c.in-Some.entry ∷ []) c.place_next.new.placing =
    subst (λ next. IfSome next (λ (e : Entry). IsReplayed c.args.calls.now c.args.tree.now c.place_next.new.tree (es ++ e ∷ []) c.place_next.new.placing)) c.in-Some.is
    ((rw c.loop-calls.invariant.0 at c.in_ok-entry.ensures.replayed) c.args.tree.now es c.loop-calls.invariant.1.replayed) in
    one_less c.args.calls.now c.args.tree.now c.place_next.new.tree es c.push.new.self.items c.in-Some.entry c.place_next.new.placing c.in_ok-push.ensures.items replayed

pub loop-calls-preserved : goal.loop-calls-preserved
loop-calls-preserved c =
    let calls = c.args.calls.now in
    let plain = calls.list in
    let es = c.loop-calls.order.items in
    let entry = c.in-Some.entry in
    let so_far = c.loop-calls.invariant.1 in
    let new = c.place_next.new in
    let replayed : IsReplayed calls c.args.tree.now new.tree (es ++ entry ∷ []) new.placing =
    subst (λ next. IfSome next (λ (e : Entry). IsReplayed calls c.args.tree.now new.tree (es ++ e ∷ []) new.placing)) c.in-Some.is ((rw c.loop-calls.invariant.0 at c.in_ok-entry.ensures.replayed) c.args.tree.now es so_far.replayed) in
    let next : (messages : List Message) → AreMessagesOf calls messages → IsPlacedNext messages plain c.loop-calls.tree new.tree es new.self.seen new.self.candidates entry = λ messages is.
    let front = c.front-in-loop-calls.ensures calls c.args.tree.now c.loop-calls.tree es so_far.replayed messages is in
    let ready = c.in_ok-admit.ensures messages es is front (so_far.left messages is) in
    subst (IsGoneOnSo messages plain c.loop-calls.tree new.tree es new.self.seen new.self.candidates) c.in-Some.is
    ((rw c.loop-calls.invariant.0 at c.in_ok-entry.ensures.next) messages c.args.tree.now es is so_far.replayed ready.0 ready.1) in (
      c.place_next.ensures.same ∙ c.loop-calls.invariant.0,
      subst (λ items. IsProposing calls c.args.tree.now new.tree items new.placing new.self.seen new.self.candidates) (sym c.in_ok-push.ensures.items)
          (one_proposed calls c.args.tree.now c.loop-calls.tree es c.loop-calls.placing c.loop-calls.ready.seen c.loop-calls.ready.candidates so_far c.front.result
          (c.front.ensures calls c.args.tree.now c.loop-calls.tree es so_far.replayed) c.loop-calls-test.true new.tree new.placing new.self.seen new.self.candidates entry next replayed),
    )

pub returns : goal.returns
returns c =
    let calls = c.args.calls.now in
    let plain = calls.list in
    let es = c.loop-calls.order.items in
    let so_far = c.loop-calls.invariant.1 in
    let fronts = c.front.ensures calls c.args.tree.now c.loop-calls.tree es so_far.replayed in
    elim c.loop-calls-test.branch [
      | else-loop-calls-test w ↦
          all_proposed calls c.args.tree.now c.loop-calls.tree es c.loop-calls.placing c.loop-calls.ready.seen c.loop-calls.ready.candidates so_far c.front.result fronts (omega (arith, w.loop-calls-test.false))
      | then-loop-calls-test+in_ok-admit+in_ok-entry+in_default w ↦ λ messages is.
          let front = w.front-in-loop-calls.ensures calls c.args.tree.now c.loop-calls.tree es so_far.replayed messages is in
          let ready = w.in_ok-admit.ensures messages es is front (so_far.left messages is) in
          stuck_proposed calls c.args.tree.now c.loop-calls.tree es c.loop-calls.placing c.loop-calls.ready.seen c.loop-calls.ready.candidates so_far c.front.result fronts messages is
          (subst (IsGoneOnSo messages plain c.loop-calls.tree w.place_next.new.tree es w.place_next.new.self.seen w.place_next.new.self.candidates) w.in_default.is
          ((rw c.loop-calls.invariant.0 at w.in_ok-entry.ensures.next) messages c.args.tree.now es is so_far.replayed ready.0 ready.1))
    ]
