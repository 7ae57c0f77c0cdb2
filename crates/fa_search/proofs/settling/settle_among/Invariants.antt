use Rattle.std.proofs.Common.{◌≡◌, ◌≤◌, ◌-◌, ◌^◌, List, [], length, take}
use Rattle.std.specs.Prelude.{Contains}
use Rattle.fa_capture.specs.Message.{Message}
use Rattle.fa_check.specs.Verdicts.{AreMessagesOf}
use Rattle.fa_order.specs.declared.entry.Entry.{Entry}
use Rattle.fa_search.specs.parts.Configurations.{PlainConfiguration, AreSpent}
use Rattle.fa_search.specs.parts.Settling.{IsTraced, AreSettlingBy}
use Rattle.fa_search.proofs.ReplyLemmas.{AreTakenIn}
use Rattle.fa_tree.specs.State.{TreeState}
use Rattle.fa_search.proofs.settling.settle_among.Given as goal

abbrev pub invariant-loop-one : goal.invariant-loop-one
invariant-loop-one l = record {
  same : l.tries.replay ≡ l.fn.tries.replay;
  budget : l.tries.spending.budget ≡ l.fn.tries.spending.budget;
  taken : (c : List Message) → AreMessagesOf l.fn.tries.replay c → AreTakenIn c l.flight.at l.yielded l.settling.work.items l.settling.settled.items;
  settling : (c : List Message) (first : TreeState) (common : List Entry) → AreMessagesOf l.fn.tries.replay c
      → ((x : PlainConfiguration) → Contains l.fn.held.items x → IsTraced c first common l.flight.at x)
      → AreSettlingBy c first common l.flight.at l.asked.asked [] l.settling.work.items l.settling.settled.items;
}

abbrev pub invariant-loop-next : goal.invariant-loop-next
invariant-loop-next l = record {
  within : l.next ≤ length l.settling.work.items;
  same : l.tries.replay ≡ l.fn.tries.replay;
  budget : l.tries.spending.budget ≡ l.fn.tries.spending.budget;
  taken : (c : List Message) → AreMessagesOf l.fn.tries.replay c → AreTakenIn c l.flight.at l.fn.held.items l.settling.work.items l.settling.settled.items;
  settling : (c : List Message) (first : TreeState) (common : List Entry) → AreMessagesOf l.fn.tries.replay c
      → ((x : PlainConfiguration) → Contains l.fn.held.items x → IsTraced c first common l.flight.at x)
      → AreSettlingBy c first common l.flight.at l.asked.asked [] l.settling.work.items l.settling.settled.items;
  spent : (c : List Message) → AreMessagesOf l.fn.tries.replay c → AreSpent c l.flight.at (take l.next l.settling.work.items) l.settling.work.items l.settling.settled.items;
}

abbrev pub decreases-loop-next : goal.decreases-loop-next
decreases-loop-next l = 2 ^ 64 - l.next
