-- What stands for a byte in markup.
use Rattle.std.specs.Prelude.{◌≡◌, ◌≢◌, ℕ, List, codes}
use Rattle.fa_picture.specs.declared.escape.Named.{Named}
use Rattle.fa_picture.specs.declared.escape.Named.TheVariants.{Less, Greater, Quote, Ampersand}
use Rattle.fa_picture.specs.declared.escape.Written.{Written}
use Rattle.fa_picture.specs.declared.escape.Written.TheVariants.{Itself, Entity}

-- the byte is none of <, >, " and &
pub record IsHarmless (byte : ℕ) : Type 0 where
  pub no_less : byte ≢ 60
  pub no_greater : byte ≢ 62
  pub no_quote : byte ≢ 34
  pub no_ampersand : byte ≢ 38

-- the byte for which an entity stands
abbrev pub byte_of : Named → ℕ
byte_of Less = 60
byte_of Greater = 62
byte_of Quote = 34
byte_of Ampersand = 38

-- the characters of an entity
abbrev pub entity_of : Named → List ℕ
entity_of Less = codes "&lt;"
entity_of Greater = codes "&gt;"
entity_of Quote = codes "&quot;"
entity_of Ampersand = codes "&amp;"

-- This stands for a byte: the byte, if it begins and ends no tag, no attribute and no entity, or its entity.
abbrev pub IsWrittenFor : (byte : ℕ) → Written → Type 0
IsWrittenFor byte (Itself other) = (other ≡ byte) × IsHarmless byte
IsWrittenFor byte (Entity named) = byte ≡ byte_of named
