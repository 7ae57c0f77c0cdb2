-- What was seen of a stream has a text.
use Rattle.std.proofs.Common.{ℕ, List, ◌++◌, Option}
use Rattle.fa_watch.specs.declared.watching.Seen.{Seen}
use Rattle.fa_watch.specs.declared.watching.Seen.TheVariants.{Good, Fault}
use Rattle.fa_watch.specs.Watched.{IsWatched}
use Rattle.fa_audit.specs.parts.Seeing.{IsCodedSeen}
use Rattle.fa_audit.proofs.CodedLemmas.{fault_coded}

pub seen_coded : (old new : Option (List ℕ)) (seen : Seen) → IsWatched old new seen → IsCodedSeen seen
seen_coded old new (Good messages) watched = tt
seen_coded old new (Fault at code) watched = fault_coded (watched.before ++ watched.piece) at code watched.is_seen
