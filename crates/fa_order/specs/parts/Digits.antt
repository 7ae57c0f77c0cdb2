-- Decimal digits.
use Rattle.std.specs.Prelude.{◌≤◌, ℕ, List, [], ◌∷◌}

-- the bytes begin with no decimal digit
abbrev pub LacksDigit : List ℕ → Type 0
LacksDigit [] = Unit {0}
LacksDigit (byte ∷ rest) = (48 ≤ byte) → (byte ≤ 57) → ⊥
