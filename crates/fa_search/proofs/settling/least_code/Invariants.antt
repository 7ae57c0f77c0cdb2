use Rattle.std.proofs.Common.{◌≡◌, ◌++◌, List}
use Rattle.fa_capture.specs.Message.{Message}
use Rattle.fa_check.specs.Verdicts.{AreMessagesOf}
use Rattle.fa_search.specs.parts.Settling.{HaveNoStep}
use Rattle.fa_search.proofs.ReplyLemmas.{IsLeastSoFar}
use Rattle.fa_search.proofs.settling.least_code.Given as goal

abbrev pub invariant-loop-one : goal.invariant-loop-one
invariant-loop-one l = record {
  same : l.replay ≡ l.fn.replay;
  so_far : (c : List Message) → AreMessagesOf l.fn.replay c → HaveNoStep c l.asked.asked l.fn.work.items → IsLeastSoFar c l.asked.asked l.yielded l.least;
  kept : (c : List Message) → AreMessagesOf l.fn.replay c → HaveNoStep c l.asked.asked l.fn.work.items → l.kept.items ≡ l.fn.kept.items ++ l.yielded;
}
