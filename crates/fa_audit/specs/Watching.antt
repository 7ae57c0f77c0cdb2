-- What a run writes that watches a stream.
use Rattle.std.specs.Prelude.{ℕ, List, ◌++◌, codes, decimal, Option}
use Rattle.fa_check.specs.declared.verdict.Verdict.TheVariants as verdicts
use Rattle.fa_watch.specs.declared.watching.Seen.{Seen}
use Rattle.fa_watch.specs.declared.watching.Seen.TheVariants.{Good, Fault}
use Rattle.fa_watch.specs.Watched.{IsWatched}
use Rattle.fa_audit.specs.declared.status.Status.TheVariants as status
use Rattle.fa_audit.specs.Status.{status_number}
use Rattle.fa_audit.specs.Line.{verdict_line}
use Rattle.fa_audit.specs.Run.{IsWritten, line_feed}

-- the line of what is seen
abbrev pub seen_line : Seen → List ℕ
seen_line (Good messages) = codes "good: " ++ (decimal messages ++ codes " messages")
seen_line (Fault at code) = verdict_line (verdicts.Fault at code)

-- its status
abbrev pub seen_status : Seen → ℕ
seen_status (Good messages) = status_number status.Legal
seen_status (Fault at code) = status_number status.Fault

-- this was written of what is seen
abbrev pub IsSeenTold : Seen → (old new : Option (List ℕ)) → (ended : ℕ) → Type 0
IsSeenTold seen old new ended = IsWritten (seen_line seen ++ line_feed) (seen_status seen) old new ended

-- a stream was watched, and what was seen of it was told
pub record IsWatchTold (capture left old new : Option (List ℕ)) (ended : ℕ) : Type 0 where
  pub seen : Seen
  pub watched : IsWatched capture left seen
  pub told : IsSeenTold seen old new ended
