use Rattle.std.proofs.Common.{◌≡◌}
use Rattle.fa_show.specs.Shown.{IsPrintingAdded}
use Rattle.fa_show.proofs.showing.write_table.Given as goal

abbrev pub invariant-loop-opcode : goal.invariant-loop-opcode
invariant-loop-opcode g l =
    let output = g.W.Output in
    IsPrintingAdded (output.written l.fn.out) (output.written l.out) × (output.is_broken l.out ≡ output.is_broken l.fn.out)
