use Rattle.std.proofs.Common.{◌++◌, ℕ, List}
use Rattle.fa_capture.specs.Captures.{records_left}
use Rattle.fa_capture.specs.Message.{Recorded}
use Rattle.fa_watch.specs.parts.Streams.{HasBeen}
use Rattle.fa_watch.proofs.StreamLemmas.{TakesOn}
use Rattle.fa_watch.proofs.stream.Stream.take.Given as goal

abbrev pub invariant-loop-packet : goal.invariant-loop-packet
invariant-loop-packet l =
    (bytes : List ℕ) (rs : List Recorded) → HasBeen bytes rs l.fn.self l.fn.session → TakesOn (bytes ++ l.piece) rs (records_left l.packet-iterator) l.self l.session
