use Rattle.std.proofs.Common.{◌≡◌, ◌≤◌, take}
use Rattle.std.specs.Str.Parse.{AllDigits, digits_value}
use Rattle.fa_order.proofs.order.read_decimal.Given as goal

-- there were digits alone, and where they are not too many, the number is theirs
abbrev pub invariant-loop-byte : goal.invariant-loop-byte
invariant-loop-byte l = record {
  counted : l.count ≡ l.byte-index;
  digits : AllDigits 10 (take l.byte-index l.left);
  number : l.byte-index ≤ 10 → l.number ≡ digits_value 10 (take l.byte-index l.left);
}
