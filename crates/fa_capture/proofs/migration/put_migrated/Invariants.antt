use Rattle.std.proofs.Common.{◌≡◌, List, ◌++◌}
use Rattle.std.specs.Io.KnownBytes.{Appends, append_known}
use Rattle.fa_capture.specs.declared.format.Format.TheVariants.{Timed}
use Rattle.fa_capture.specs.Captures.{records_of, records_left}
use Rattle.fa_capture.specs.Message.{Recorded}
use Rattle.fa_capture.specs.Framing.{capture_spelling}
use Rattle.fa_capture.proofs.migration.put_migrated.Given as goal

-- the capture's records are those that are put and those that are left
abbrev pub invariant-loop-packet : goal.invariant-loop-packet
invariant-loop-packet g l =
    let output = g.W.Output in
    (goal.iterator-loop-packet g).can_next l.packet-iterator
    × (goal.iterator-loop-packet g).is_finite l.packet-iterator
    × (output.is_broken l.out ≡ output.is_broken l.fn.out)
    × ((front : List Recorded)
    × (records_of l.capture ≡ front ++ records_left l.packet-iterator)
    × Appends (output.written l.fn.out) (append_known (output.written l.out) l.gathered.items) (capture_spelling Timed front))
