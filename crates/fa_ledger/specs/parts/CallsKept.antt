-- What a book of calls keeps.
use Rattle.std.specs.Prelude.{ℕ, List}
use Rattle.fa_ledger.specs.Calls.{PlainCall}

-- the calls, and for the names of how many listings more there is room; 0 where the next one has no place
pub record CallsKept : Type 0 where
  pub calls : List PlainCall
  pub room : ℕ
