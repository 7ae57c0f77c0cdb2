-- What a run writes that shows the messages of a capture, or draws them.
use Rattle.std.specs.Prelude.{◌≡◌, ℕ, List, Option}
use Rattle.fa_audit.specs.declared.status.Status.TheVariants as status
use Rattle.fa_audit.specs.Status.{status_number}
use Rattle.fa_show.specs.Shown.{IsPrintingAdded}

-- printing ASCII and line feeds alone were written, and the call ended with the due status
pub record IsPrintingWritten (due : ℕ) (old new : Option (List ℕ)) (ended : ℕ) : Type 0 where
  pub written : IsPrintingAdded old new
  pub status_is : ended ≡ due

-- what is shown is no verdict: the status is 0
abbrev pub IsShown : (old new : Option (List ℕ)) → (ended : ℕ) → Type 0
IsShown old new ended = IsPrintingWritten (status_number status.Legal) old new ended
