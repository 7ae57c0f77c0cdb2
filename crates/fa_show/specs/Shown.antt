-- What is written of the messages of a capture.
use Rattle.std.specs.Prelude.{ℕ, List, Option}
use Rattle.std.specs.Io.KnownBytes.{Appends}
use Rattle.fa_show.specs.Printing.{IsPrinting}

-- some text of printing bytes was written behind what stood written
pub record IsPrintingAdded (old new : Option (List ℕ)) : Type 0 where
  pub text : List ℕ
  pub printing : IsPrinting text
  pub added : Appends old new text
