use Rattle.std.proofs.Common.{List}
use Rattle.fa_capture.specs.Message.{Message}
use Rattle.fa_show.specs.parts.Following.{IsHeld}
use Rattle.fa_show.proofs.following.take_turns.Given as goal

abbrev pub invariant-loop : goal.invariant-loop
invariant-loop l = (c : List Message) × IsHeld c l.parked l.standing
