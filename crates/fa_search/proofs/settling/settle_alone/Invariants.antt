use Rattle.std.proofs.Common.{◌≡◌, ◌≤◌, ℕ, List, length}
use Rattle.std.specs.Prelude.{Contains}
use Rattle.fa_capture.specs.Message.{Message}
use Rattle.fa_check.specs.Verdicts.{AreMessagesOf}
use Rattle.fa_order.specs.declared.entry.Entry.{Entry}
use Rattle.fa_search.specs.parts.Configurations.{PlainConfiguration}
use Rattle.fa_search.specs.parts.Settling.{IsTraced, IsOnlyPending}
use Rattle.fa_search.proofs.ReplyLemmas.{IsSettledSoFar}
use Rattle.fa_tree.specs.State.{TreeState}
use Rattle.fa_search.proofs.settling.settle_alone.Given as goal

abbrev pub invariant-loop-one : goal.invariant-loop-one
invariant-loop-one l = record {
  same : l.tries.replay ≡ l.initial.tries.replay;
  budget : l.tries.spending.budget ≡ l.initial.tries.spending.budget;
  fewer : length l.settling.settled.items ≤ length l.yielded;
  so_far : (c : List Message) (first : TreeState) (common : List Entry) (at : ℕ) → AreMessagesOf l.initial.tries.replay c → IsOnlyPending c at l.asked.asked
      → ((x : PlainConfiguration) → Contains l.fn.held.items x → IsTraced c first common at x)
      → IsSettledSoFar c first common at l.asked.asked l.yielded l.settling.work.items l.settling.settled.items;
}
