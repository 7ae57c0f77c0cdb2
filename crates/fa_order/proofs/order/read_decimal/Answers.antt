use Rattle.std.proofs.Common.{◌≡◌, ℕ, ◌+◌, ◌-◌, ◌^◌, ◌<◌, ◌≤◌, ◌++◌, false, List, length, take, drop, get_or, Some, Result, Ok, Err, sym, ap, ◌∙◌, arith}
use Rattle.std.specs.Char.{digit_value}
use Rattle.std.specs.Fmt.{decimal}
use Rattle.std.specs.Result.{OkIff, is_ok, result_ok}
use Rattle.std.specs.Str.Parse.{digits_value}
use Rattle.std.proofs.lemmas.Bool.Decides.{nat_tests}
use Rattle.std.proofs.lemmas.Int.Digits.{digits_more, digits_value_more}
use Rattle.std.proofs.lemmas.List.{get_or-take, length-drop, length-take-le, take_all, take-append-drop}
use Rattle.std.proofs.lemmas.Str.{digit_value_digit}
use Rattle.fa_order.proofs.OrderDigits.{digit_from_true, digits_are_decimal, digits_fit, count_prints, number_prints, value_of, zero_first_prints}
use Rattle.fa_order.proofs.order.read_decimal.Goals as goal
use Rattle.fa_order.proofs.order.read_decimal.Goals.{else-loop-byte-test, then-loop-byte-test+then-not-is_ascii_digit, then-count-eq0-via-then-count-eq0, then-count-eq0-via-else-count-eq0+then-count-gt-MAX_DIGITS, then-count-eq0-via-else-count-eq0+else-count-gt-MAX_DIGITS+then-left-eq48, then-count-gt1, else-count-gt1}

-- what a conversion that may fail gives
converted : {E : Type 0} (r : Result ℕ E) (P : Type 0) (v x : ℕ) → OkIff r P v → Some x ≡ result_ok r → P × (x ≡ v)
converted (Ok y) P v x says same = (says.0, cc)
converted (Err e) P v x says same = absurd cc

not_converted : {E : Type 0} (r : Result ℕ E) (P : Type 0) (v : ℕ) → OkIff r P v → false ≡ is_ok r → P → ⊥
not_converted (Ok y) P v says not p = absurd cc
not_converted (Err e) P v says not p = says p

pub loop-byte-preserved : goal.loop-byte-preserved
loop-byte-preserved c =
    let s = c.args.left.now in
    let i = c.loop-byte.byte-index in
    let so_far = c.loop-byte.invariant in
    let range = digit_from_true (get_or s i 0) (sym c.is_ascii_digit.ensures.value ∙ c.if-not-is_ascii_digit.false) in
    let value : digit_value (get_or s i 0) + 48 ≡ get_or s i 0 = digit_value_digit (get_or s i 0) range in
    record {
      counted = omega arith;
      digits = digits_more 10 s i c.loop-byte-test.true so_far.digits (omega (arith, value, range.1));
      number = λ short.
          let fits : digits_value 10 (take i s) < 10 ^ 9 = digits_fit (take i s) 9 so_far.digits (omega (arith, length-take-le i s (omega arith))) in
          omega (arith, digits_value_more 10 s i c.loop-byte-test.true, so_far.number (omega arith), fits, value, c.from.ensures);
    }

pub returns-then-count-eq0-clause-none : goal.returns-then-count-eq0-clause-none
returns-then-count-eq0-clause-none c = λ n rest fits lacks e.
    let s = c.args.left.now in
    let i = c.loop-byte.byte-index in
    let is : take i s ≡ decimal n = digits_are_decimal s rest i n (omega arith) c.loop-byte.invariant.digits (λ inside. elim c.loop-byte-test.branch [
      | else-loop-byte-test w ↦ absurd (omega arith)
      | then-loop-byte-test+then-not-is_ascii_digit w ↦ sym w.is_ascii_digit.ensures.value ∙ w.if-not-is_ascii_digit.true
    ]) fits lacks e in
    let count = count_prints (take i s) n fits is in
    let long : length (take i s) ≡ i = length-take-le i s (omega arith) in
    elim c.then-count-eq0.branch [
      | then-count-eq0-via-then-count-eq0 w ↦ omega arith
      | then-count-eq0-via-else-count-eq0+then-count-gt-MAX_DIGITS w ↦ omega arith
      | then-count-eq0-via-else-count-eq0+else-count-gt-MAX_DIGITS+then-left-eq48 w ↦ elim w.if-count-gt1.branch [
        | then-count-gt1 v ↦ let zero_there : get_or s 0 0 ≡ 48 = grind (arith, nat_tests, v.value-is, w.if-left-eq48.true) in
            zero_first_prints (take i s) n fits (omega arith) (get_or-take i s 0 0 (omega arith) ∙ zero_there) is
        | else-count-gt1 v ↦ grind (arith, nat_tests, v.value-is, w.if-left-eq48.true, v.if-count-gt1.false)
      ]
    ]

pub returns-in_err-ok-clause-none : goal.returns-in_err-ok-clause-none
returns-in_err-ok-clause-none c = rw c.from_residual.ensures (λ n rest fits lacks e.
    let s = c.args.left.now in
    let i = c.loop-byte.byte-index in
    let is : take i s ≡ decimal n = digits_are_decimal s rest i n (omega arith) c.loop-byte.invariant.digits (λ inside. elim c.loop-byte-test.branch [
      | else-loop-byte-test w ↦ absurd (omega arith)
      | then-loop-byte-test+then-not-is_ascii_digit w ↦ sym w.is_ascii_digit.ensures.value ∙ w.if-not-is_ascii_digit.true
    ]) fits lacks e in
    let value : digits_value 10 (take i s) ≡ n = ap (digits_value 10) is ∙ value_of n fits in
    not_converted c.try_from.result _ c.loop-byte.number c.try_from.ensures c.in_err-ok.ensures.variant (omega (arith, value, fits, c.loop-byte.invariant.number (omega arith))))

pub returns-clause-number : goal.returns-clause-number
returns-clause-number c =
    let s = c.args.left.now in
    let i = c.loop-byte.byte-index in
    let n = c.in_ok-ok.field-0 in
    let got = converted c.try_from.result _ c.loop-byte.number n c.try_from.ensures c.in_ok-ok.ensures.value in
    let number : c.loop-byte.number ≡ digits_value 10 (take i s) = c.loop-byte.invariant.number (omega arith) in
    let long : length (take i s) ≡ i = length-take-le i s (omega arith) in
    let no_zero : get_or (take i s) 0 0 ≡ 48 → length (take i s) ≤ 1 = λ z. elim c.if-count-gt1.branch [
      | then-count-gt1 v ↦ let there : get_or (take i s) 0 0 ≡ get_or s 0 0 = get_or-take i s 0 0 (omega arith) in
          absurd (grind (arith, nat_tests, v.value-is, c.if-left-eq48.false, z, there))
      | else-count-gt1 v ↦ omega arith
    ] in
    let prints : take i s ≡ decimal (digits_value 10 (take i s)) = number_prints (take i s) c.loop-byte.invariant.digits (omega arith) no_zero (omega (arith, number, got.0)) in
    let behind : drop i s ≡ take (length s - c.loop-byte.count) (drop c.loop-byte.count s) =
    ap (λ (k : ℕ). drop k s) (sym c.loop-byte.invariant.counted) ∙ sym (take_all (length s - c.loop-byte.count) (drop c.loop-byte.count s) (omega (arith, length-drop c.loop-byte.count s))) in
    sym (take-append-drop i s) ∙ ap (λ (d : List ℕ). d ++ drop i s) (prints ∙ ap decimal (sym number ∙ sym got.1)) ∙ ap (λ (d : List ℕ). decimal n ++ d) behind
