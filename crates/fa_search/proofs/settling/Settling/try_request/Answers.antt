use Rattle.std.proofs.Common.{◌≤◌, ℕ, List, Some, None, sym, subst}
use Rattle.std.specs.Prelude.{Contains}
use Rattle.std.proofs.lemmas.Result.{on_ok_weaker}
use Rattle.fa_capture.specs.Message.{Message}
use Rattle.fa_tree.specs.State.{TreeState}
use Rattle.fa_check.specs.Runs.{EntrySteps}
use Rattle.fa_check.specs.Verdicts.{AreMessagesOf}
use Rattle.fa_search.specs.parts.Configurations.{IsFollowed}
use Rattle.fa_search.proofs.TakenLemmas.{FollowsEntry, FollowsPending, without_followed, counts_followed, grown_same}
use Rattle.fa_search.proofs.settling.Settling.try_request.Goals as goal

pub returns-then-has-clause-grown : goal.returns-then-has-clause-grown
returns-then-has-clause-grown c = grown_same c.args.self.now.work.items c.args.self.now.settled.items

pub returns-then-has-clause-followed : goal.returns-then-has-clause-followed
returns-then-has-clause-followed c = λ messages e new are number up lacks steps.
    absurd (lacks (subst (Contains c.args.origin.now.copy.placed) (sym number) (c.has.ensures.0 c.if-has.true)))

pub returns-in-None-clause-followed : goal.returns-in-None-clause-followed
returns-in-None-clause-followed c =
    let calls = c.args.tries.now.replay in
    let x = c.args.origin.now.copy in
    let pending = c.args.pending in
    let new = c.try_entry.new.self in
    on_ok_weaker {P = FollowsEntry calls c.args.flight.now.at x (record { at = pending.asked; wrote = None }) new.work.items new.settled.items} {Q = FollowsPending calls c.args.flight.now.at x pending new.work.items new.settled.items}
    c.try_entry.result (without_followed calls c.args.flight.now.at x pending new.work.items new.settled.items c.in-None.is) c.try_entry.ensures.followed

pub returns-in-Some-clause-followed : goal.returns-in-Some-clause-followed
returns-in-Some-clause-followed c =
    let calls = c.args.tries.now.replay in
    let x = c.args.origin.now.copy in
    let pending = c.args.pending in
    let new = c.try_counts.new.self in
    let most = c.in-Some.most in
    on_ok_weaker
    {P = (messages : List Message) (count : ℕ) (tree : TreeState) → AreMessagesOf calls messages → count ≤ most
    → EntrySteps x.tree tree messages (record { at = pending.asked; wrote = Some count })
    → IsFollowed messages c.args.flight.now.at x (record { at = pending.asked; wrote = Some count }) tree new.work.items new.settled.items} {Q = FollowsPending calls c.args.flight.now.at x pending new.work.items new.settled.items}
    c.try_counts.result (counts_followed calls c.args.flight.now.at x pending new.work.items new.settled.items most c.in-Some.is) c.try_counts.ensures.followed
