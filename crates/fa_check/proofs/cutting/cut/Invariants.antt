use Rattle.std.proofs.Common.{List, take}
use Rattle.fa_capture.specs.Message.{Message}
use Rattle.fa_check.specs.Verdicts.{AreMessagesOf}
use Rattle.fa_check.specs.Cuts.{AreLeft}
use Rattle.fa_check.proofs.cutting.cut.Given as goal

abbrev pub invariant-loop-entry : goal.invariant-loop-entry
invariant-loop-entry l = (c : List Message) → AreMessagesOf l.calls c → AreLeft c l.messages (take l.entry-index (take l.end l.order)) l.left.items
