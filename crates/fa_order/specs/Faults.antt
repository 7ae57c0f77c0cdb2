-- What an error of the reader says of the bytes; of memory it says nothing.
use Rattle.std.specs.Prelude.{ℕ, List}
use Rattle.fa_order.specs.declared.error.TextError.{TextError}
use Rattle.fa_order.specs.declared.error.TextError.TheVariants.{Line, Memory}
use Rattle.fa_order.specs.Order.{IsOrderFault}

-- the bytes are no order text, and it tells their line
abbrev pub IsOrderFaultTold : List ℕ → TextError → Type 0
IsOrderFaultTold bytes (Line n) = IsOrderFault bytes n
IsOrderFaultTold bytes Memory = Unit {0}
