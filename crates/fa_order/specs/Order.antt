-- Order texts: a first line, a line for each entry, and a last line.
use Rattle.std.specs.Prelude.{◌≡◌, ◌≢◌, ℕ, ◌+◌, ◌^◌, ◌<◌, ◌⊎◌, List, [], ◌++◌, length, All, codes, Option, None, Some, IfSome}
use Rattle.std.specs.Fmt.{decimal}
use Rattle.std.specs.List.{flat_map}
use Rattle.fa_order.specs.declared.entry.Entry.{Entry}
use Rattle.fa_order.specs.Lines.{line_of, end_line, LacksLine}

-- how many bytes were written, if any were, is at most 4294967295
abbrev pub IsCount : Option ℕ → Type 0
IsCount wrote = IfSome wrote (λ count. count < 2 ^ 32)

-- its numbers are at most 4294967295
pub record IsInRange (e : Entry) : Type 0 where
  pub at : e.at < 2 ^ 32
  pub wrote : IsCount e.wrote

-- what a line says of the bytes written: nothing, or ` w ` and how many they are
abbrev pub wrote_text : Option ℕ → List ℕ
wrote_text None = []
wrote_text (Some count) = codes " w " ++ decimal count

-- what stands in a line behind the number of its message: what it wrote, and a line feed
abbrev pub line_end : Option ℕ → List ℕ
line_end wrote = line_of (wrote_text wrote)

-- an entry's line, its numbers as `{}` prints them
abbrev pub entry_line : Entry → List ℕ
entry_line e = decimal e.at ++ line_end e.wrote

-- the first line
abbrev pub first_line : List ℕ
first_line = line_of (codes "fuse-order 1")

-- the first line, and the lines of the entries
abbrev pub opening : List Entry → List ℕ
opening es = first_line ++ flat_map entry_line es

-- a whole text
abbrev pub order_text : List Entry → List ℕ
order_text es = opening es ++ end_line

-- the bytes are the text of these entries
pub record IsOrderText (bytes : List ℕ) (es : List Entry) : Type 0 where
  pub in_range : All IsInRange es
  pub spelled : bytes ≡ order_text es

-- the bytes begin with no entry's line
abbrev pub LacksEntry : List ℕ → Type 0
LacksEntry bytes = (e : Entry) → IsInRange e → LacksLine bytes (entry_line e)

-- the first line is not there
pub record LacksFirstLine (bytes : List ℕ) (line : ℕ) : Type 0 where
  pub place : line ≡ 1
  pub lacks : LacksLine bytes first_line

-- Behind the first line and the lines of these entries comes the rest, which begins neither with an entry's
-- line nor with the last line. The rest may be empty.
pub record LacksNextLine (bytes : List ℕ) (line : ℕ) : Type 0 where
  pub entries : List Entry
  pub rest : List ℕ
  pub in_range : All IsInRange entries
  pub spelled : bytes ≡ opening entries ++ rest
  pub no_entry : LacksEntry rest
  pub no_end : LacksLine rest end_line
  pub place : line ≡ length entries + 2

-- Behind the text of these entries comes a rest.
pub record GoesOn (bytes : List ℕ) (line : ℕ) : Type 0 where
  pub entries : List Entry
  pub rest : List ℕ
  pub in_range : All IsInRange entries
  pub spelled : bytes ≡ order_text entries ++ rest
  pub some : rest ≢ []
  pub place : line ≡ length entries + 3

-- The bytes are no order text, and this is the line of their fault, counted from 1.
abbrev pub IsOrderFault : List ℕ → ℕ → Type 0
IsOrderFault bytes line = LacksFirstLine bytes line ⊎ (LacksNextLine bytes line ⊎ GoesOn bytes line)
