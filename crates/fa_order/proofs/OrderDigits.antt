-- A decimal that no digit follows is read in one way.
use Rattle.std.proofs.Common.{◌≡◌, ℕ, zero, suc, ◌^◌, ◌<◌, ◌≤◌, Bool, true, false, List, [], ◌∷◌, ◌++◌, length, get_or, take, drop, refl, sym, ap, subst, ◌∙◌, inl, inr, arith}
use Rattle.std.specs.Char.{is_ascii_digit}
use Rattle.std.specs.Fmt.{decimal}
use Rattle.std.specs.List.{prefix_len}
use Rattle.std.specs.Str.Parse.{AllDigits, digits_value}
use Rattle.std.proofs.lemmas.Bool.{cases_lt}
use Rattle.std.proofs.lemmas.Bool.Decides.{nat_tests}
use Rattle.std.proofs.lemmas.List.{take_at, drop_at, length-take-le, take-append-drop}
use Rattle.std.proofs.lemmas.Fmt.{decimal_is_IsNumeral, decimal_injective, decimal-digits_value, decimal_digit, first_decimal, length-decimal-le}
use Rattle.std.proofs.lemmas.Str.Parse.{digit_from_value, digits_value_short, IsNumeralModel, numerals_by_value, tells_digits}
use Rattle.fa_order.specs.parts.Digits.{LacksDigit}

-- ---- the digits at the front of bytes

digit_true : (c : ℕ) → 48 ≤ c → c ≤ 57 → is_ascii_digit c ≡ true
digit_true c low high = grind (arith, nat_tests)

pub digit_from_true : (c : ℕ) → is_ascii_digit c ≡ true → (48 ≤ c) × (c ≤ 57)
digit_from_true c e = grind (arith, nat_tests)

digit_from_false : (c : ℕ) → is_ascii_digit c ≡ false → 48 ≤ c → c ≤ 57 → ⊥
digit_from_false c e low high = let yes : is_ascii_digit c ≡ true = digit_true c low high in cc

digit_false_at : (b : Bool) (c : ℕ) → is_ascii_digit c ≡ b → (48 ≤ c → c ≤ 57 → ⊥) → b ≡ false
digit_false_at true c e lacks = let both = digit_from_true c e in absurd (lacks both.0 both.1)
digit_false_at false c e lacks = refl

digit_false : (c : ℕ) → (48 ≤ c → c ≤ 57 → ⊥) → is_ascii_digit c ≡ false
digit_false c lacks = digit_false_at (is_ascii_digit c) c refl lacks

-- what stands from a place where no digit is, or from the end
lacks_from : (s : List ℕ) (k : ℕ) → (k < length s → is_ascii_digit (get_or s k 0) ≡ false) → LacksDigit (drop k s)
lacks_from [] zero other = tt
lacks_from [] (suc k) other = tt
lacks_from (c ∷ s) zero other = digit_from_false c (other (omega arith))
lacks_from (c ∷ s) (suc k) other = lacks_from s k (λ inside. other (omega (arith, inside)))

no_run : (rest : List ℕ) → LacksDigit rest → prefix_len is_ascii_digit rest ≡ 0
no_run [] lacks = refl
no_run (c ∷ rest) lacks = rw (digit_false c lacks) refl

-- digits that none follows are counted, and no more
run_of : (ds rest : List ℕ) → AllDigits 10 ds → LacksDigit rest → prefix_len is_ascii_digit (ds ++ rest) ≡ length ds
run_of [] rest digits lacks = no_run rest lacks
run_of (c ∷ ds) rest digits lacks =
    let range = digit_from_value c digits.0 in
    let later : prefix_len is_ascii_digit (ds ++ rest) ≡ length ds = run_of ds rest digits.1 lacks in
    rw (digit_true c range.0 range.1, later) (omega arith)

-- ---- decimals

decimal_digits : (n : ℕ) → n < 2 ^ 32 → AllDigits 10 (decimal n)
decimal_digits n fits = (decimal_is_IsNumeral n (omega arith)).0.1

-- the front of bytes that begin with a decimal, up to the first that is no digit
front_is_decimal : (s rest : List ℕ) (n : ℕ) → n < 2 ^ 32 → LacksDigit rest → s ≡ decimal n ++ rest → (take (prefix_len is_ascii_digit s) s ≡ decimal n) × (drop (prefix_len is_ascii_digit s) s ≡ rest)
front_is_decimal s rest n fits lacks e =
    let count : prefix_len is_ascii_digit s ≡ length (decimal n) = ap (prefix_len is_ascii_digit) e ∙ run_of (decimal n) rest (decimal_digits n fits) lacks in (
      ap (λ (k : ℕ). take k s) count ∙ ap (take (length (decimal n))) e ∙ take_at (decimal n) rest (length (decimal n)) refl,
      ap (λ (k : ℕ). drop k s) count ∙ ap (drop (length (decimal n))) e ∙ drop_at (decimal n) rest (length (decimal n)) refl,
    )

-- and so for the digits before a place where no digit is
pub digits_are_decimal : (s rest : List ℕ) (k n : ℕ) → k ≤ length s → AllDigits 10 (take k s) → (k < length s → is_ascii_digit (get_or s k 0) ≡ false) → n < 2 ^ 32 → LacksDigit rest → s ≡ decimal n ++ rest → take k s ≡ decimal n
digits_are_decimal s rest k n within digits other fits lacks e =
    let count : prefix_len is_ascii_digit s ≡ k =
    ap (prefix_len is_ascii_digit) (sym (take-append-drop k s)) ∙ run_of (take k s) (drop k s) digits (lacks_from s k other) ∙ length-take-le k s within in
    ap (λ (j : ℕ). take j s) (sym count) ∙ (front_is_decimal s rest n fits lacks e).0

front_digit : (ds rest : List ℕ) → 0 < length ds → AllDigits 10 ds → LacksDigit (ds ++ rest) → ⊥
front_digit [] rest some digits lacks = omega (arith, some)
front_digit (c ∷ ds) rest some digits lacks = let range = digit_from_value c digits.0 in lacks range.0 range.1

-- two decimals that no digit follows
pub one_decimal : (m n : ℕ) (x y : List ℕ) → m < 2 ^ 32 → n < 2 ^ 32 → LacksDigit x → LacksDigit y → decimal m ++ x ≡ decimal n ++ y → (m ≡ n) × (x ≡ y)
one_decimal m n x y m_fits n_fits lacks lacks_too e =
    let a = front_is_decimal (decimal m ++ x) x m m_fits lacks refl in
    let b = front_is_decimal (decimal m ++ x) y n n_fits lacks_too e in
    (decimal_injective m n (omega arith) (omega arith) (sym a.0 ∙ b.0), sym a.1 ∙ b.1)

-- what begins with no digit begins with no decimal
pub no_decimal : (n : ℕ) (s rest : List ℕ) → n < 2 ^ 32 → LacksDigit s → s ≡ decimal n ++ rest → ⊥
no_decimal n s rest fits lacks e =
    let first : LacksDigit (decimal n ++ rest) = subst LacksDigit e lacks in
    front_digit (decimal n) rest (decimal_is_IsNumeral n (omega arith)).0.0 (decimal_digits n fits) first

-- ---- the number that digits print

own : IsNumeralModel (AllDigits 10) (digits_value 10)
own = numerals_by_value (AllDigits 10) tells_digits

-- the number that a decimal prints
pub value_of : (n : ℕ) → n < 2 ^ 32 → digits_value 10 (decimal n) ≡ n
value_of n fits = (decimal_is_IsNumeral n (omega arith)).1

-- digits that are not too many print so small a number
pub digits_fit : (ds : List ℕ) (k : ℕ) → AllDigits 10 ds → length ds ≤ k → digits_value 10 ds < 10 ^ k
digits_fit ds k digits short = digits_value_short own ds k digits short

-- digits with no leading zero print their number
pub number_prints : (ds : List ℕ) → AllDigits 10 ds → 0 < length ds → (get_or ds 0 0 ≡ 48 → length ds ≤ 1) → digits_value 10 ds < 2 ^ 32 → ds ≡ decimal (digits_value 10 ds)
number_prints ds digits some no_zero fits = sym (decimal-digits_value own ds digits some (λ z. let short = no_zero z in omega arith) (omega arith))

-- the digits of a number, how many they are
pub count_prints : (ds : List ℕ) (n : ℕ) → n < 2 ^ 32 → ds ≡ decimal n → (0 < length ds) × (length ds ≤ 10)
count_prints ds n fits e =
    let same : length ds ≡ length (decimal n) = ap length e in (
      omega (arith, same, (decimal_is_IsNumeral n (omega arith)).0.0),
      omega (arith, same, length-decimal-le 10 n (omega arith) (omega (arith, fits)) (omega (arith, fits))),
    )

-- digits with a leading zero print no number
pub zero_first_prints : (ds : List ℕ) (n : ℕ) → n < 2 ^ 32 → 1 < length ds → get_or ds 0 0 ≡ 48 → ds ≡ decimal n → ⊥
zero_first_prints ds n fits long lead e =
    elim (cases_lt 0 n) [
      | inl above ↦ let first : 48 < get_or (decimal n) 0 0 = first_decimal n above (omega arith) in
          let same : get_or ds 0 0 ≡ get_or (decimal n) 0 0 = ap (λ (s : List ℕ). get_or s 0 0) e in omega arith
      | inr le ↦ let none : n ≡ 0 = omega arith in
          let one : ds ≡ 48 ∷ [] = e ∙ ap decimal none ∙ decimal_digit 0 (omega arith) in
          let short : length ds ≡ 1 = ap length one in omega arith
    ]
