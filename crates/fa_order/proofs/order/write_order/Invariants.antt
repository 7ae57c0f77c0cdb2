use Rattle.std.proofs.Common.{◌≡◌, All, string_bytes, take}
use Rattle.fa_order.specs.Order.{IsInRange, opening}
use Rattle.fa_order.proofs.order.write_order.Given as goal

abbrev pub invariant-loop-entry : goal.invariant-loop-entry
invariant-loop-entry l = record {
  written : string_bytes l.text ≡ opening (take l.entry-index l.entries);
  in_range : All IsInRange (take l.entry-index l.entries);
}
