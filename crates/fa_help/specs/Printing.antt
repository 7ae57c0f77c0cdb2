-- The bytes of what is printed.
use Rattle.std.specs.Prelude.{ℕ, Bool, true, List, [], ◌∷◌, IsTrue, ◌||◌, ◌&&◌, ◌==◌, nat_le}

-- a byte from the blank to the tilde, or a line feed
abbrev pub is_printing : ℕ → Bool
is_printing byte = (byte == 10) || (nat_le 32 byte && nat_le byte 126)

abbrev pub are_printing : List ℕ → Bool
are_printing [] = true
are_printing (byte ∷ bytes) = is_printing byte && are_printing bytes

-- the text has no others
abbrev pub IsPrinting : List ℕ → Type 0
IsPrinting text = IsTrue (are_printing text)
