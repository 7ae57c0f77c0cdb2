use Rattle.std.proofs.Common.{List, length, ◌-◌}
use Rattle.fa_capture.specs.Message.{Message}
use Rattle.fa_order.specs.declared.entry.Entry.{Entry}
use Rattle.fa_check.specs.Verdicts.{AreMessagesOf}
use Rattle.fa_check.specs.Replays.{IsFront}
use Rattle.fa_propose.specs.parts.Ready.{IsReady}
use Rattle.fa_propose.proofs.ready.Ready.admit.Given as goal

abbrev pub invariant-loop-self : goal.invariant-loop-self
invariant-loop-self l =
    (c : List Message) (es : List Entry) → AreMessagesOf l.calls c → IsFront c es l.front
    → IsReady c l.calls.list es l.fn.self.seen l.fn.self.candidates
    → IsReady c l.calls.list es l.self.seen l.self.candidates

abbrev pub decreases-loop-self : goal.decreases-loop-self
decreases-loop-self l = length l.calls.list - l.self.seen
