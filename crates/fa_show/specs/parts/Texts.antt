-- Text in its room.
use Rattle.std.specs.Prelude.{◌≤◌, ℕ, List, length, take}
use Rattle.fa_show.specs.declared.text.Text.TheInside.{Inside}
use Rattle.fa_show.specs.Printing.{IsPrinting}

-- the text
abbrev pub text_shown : Inside → List ℕ
text_shown t = take t.taken t.room.items

-- The whole room holds printing bytes, and the text is the front of it.
abbrev pub IsText : Inside → Type 0
IsText t = IsPrinting t.room.items × (t.taken ≤ length t.room.items)
