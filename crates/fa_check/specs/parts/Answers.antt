-- What is answered of an entry that fails.
use Rattle.std.specs.Prelude.{ℕ, Result, Ok, Err, alloc_error}
use Rattle.std.specs.declared.alloc.AllocError.{AllocError}
use Rattle.fa_tree.specs.declared.error.StepError.{StepError}
use Rattle.fa_tree.specs.declared.error.StepError.TheVariants.{Refused, Memory}
use Rattle.fa_check.specs.declared.verdict.Verdict.{Verdict}
use Rattle.fa_check.specs.declared.verdict.Verdict.TheVariants.{NotShown}

-- the entry of this number, with this message number, fails so
abbrev pub answer_to : (entry at : ℕ) → StepError → Result Verdict AllocError
answer_to entry at (Refused code) = Ok (NotShown entry at code)
answer_to entry at Memory = Err alloc_error
