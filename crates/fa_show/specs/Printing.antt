-- What may be written.
use Rattle.std.specs.Prelude.{◌≡◌, ◌≤◌, ◌⊎◌, ℕ, List, All}

-- the byte is a printing character of ASCII, or a line feed
abbrev pub IsPrintingByte : ℕ → Type 0
IsPrintingByte byte = ((32 ≤ byte) × (byte ≤ 126)) ⊎ (byte ≡ 10)

-- each of these bytes is one
abbrev pub IsPrinting : List ℕ → Type 0
IsPrinting bytes = All IsPrintingByte bytes
