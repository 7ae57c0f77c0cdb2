-- Bytes of a spelled name that stand for themselves.
use Rattle.std.specs.Prelude.{◌≢◌, ℕ}
use Rattle.percent_encoding.specs.Percent.{percent_sign}
use Rattle.fa_tree_text.specs.Paths.{IsSpelledByte}

-- a byte that a spelled name may have, and that begins no escape
abbrev pub IsUnescapedByte : ℕ → Type 0
IsUnescapedByte b = IsSpelledByte b × (b ≢ percent_sign)
