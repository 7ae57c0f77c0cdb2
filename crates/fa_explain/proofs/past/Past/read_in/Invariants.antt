use Rattle.std.proofs.Common.{◌≤◌, List, length}
use Rattle.fa_capture.specs.Message.{Message}
use Rattle.fa_session.specs.Shows.{Shows}
use Rattle.fa_explain.proofs.past.Past.read_in.Given as goal

abbrev pub invariant-loop-taken : goal.invariant-loop-taken
invariant-loop-taken l = (c : List Message) × Shows c l.session × (length c ≤ l.taken)
