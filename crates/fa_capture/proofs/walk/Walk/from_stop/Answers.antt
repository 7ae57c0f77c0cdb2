use Rattle.std.proofs.Common.{drop}
use Rattle.fa_capture.proofs.StopLemmas.{read_within}
use Rattle.fa_capture.proofs.walk.Walk.from_stop.Goals as goal

pub invariant_of-result : goal.invariant_of-result
invariant_of-result c = read_within c.args.bytes.now (drop c.args.stop.read c.args.bytes.now) c.args.stop.so_far c.requires.some
