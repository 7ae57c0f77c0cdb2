-- What an error of the reader says of the bytes; of memory it says nothing.
use Rattle.std.specs.Prelude.{ℕ, List}
use Rattle.fa_order.specs.declared.error.TextError.{TextError}
use Rattle.fa_order.specs.declared.error.TextError.TheVariants.{Line, Memory}
use Rattle.fa_tree_text.specs.TreeText.{IsTreeFault}

-- the bytes are no tree text, and it tells their line
abbrev pub IsTreeFaultTold : List ℕ → TextError → Type 0
IsTreeFaultTold bytes (Line n) = IsTreeFault bytes n
IsTreeFaultTold bytes Memory = Unit {0}
