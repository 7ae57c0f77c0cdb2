-- What was seen of a stream, and why nothing was.
use Rattle.std.specs.Prelude.{IsSome}
use Rattle.fa_capture.specs.Codes.{text_of}
use Rattle.fa_watch.specs.declared.watching.Seen.{Seen}
use Rattle.fa_watch.specs.declared.watching.Seen.TheVariants.{Good, Fault}
use Rattle.fa_watch.specs.declared.watching.WatchError.{WatchError}
use Rattle.fa_watch.specs.declared.watching.WatchError.TheVariants.{Read, Memory}
use Rattle.fa_audit.specs.declared.running.RunFault.{RunFault}
use Rattle.fa_audit.specs.declared.running.RunFault.TheVariants as faults

-- the code that is told, if one is, has a text
abbrev pub IsCodedSeen : Seen → Type 0
IsCodedSeen (Good messages) = Unit {0}
IsCodedSeen (Fault at code) = IsSome (text_of code)

-- as which fault of a run it is told that nothing was seen
abbrev pub watch_fault : WatchError → RunFault
watch_fault Read = faults.Read
watch_fault Memory = faults.Memory
