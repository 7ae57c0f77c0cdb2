-- The next message of a stream.
use Rattle.std.proofs.Common.{◌<◌, List, length}
use Rattle.fa_capture.specs.declared.limits.TheConstants.{MAX_MESSAGES}
use Rattle.fa_capture.specs.Message.{Message}
use Rattle.fa_capture.proofs.CallerLemmas.{fails_first}
use Rattle.fa_session.specs.Allowed.{session_checks, IsAllowed}
use Rattle.fa_session.specs.Events.{PlainEvent, IsEvent}
use Rattle.fa_session.specs.Plain.{PlainSession}
use Rattle.fa_session.specs.declared.error.SessionError.{SessionError}
use Rattle.fa_session.specs.declared.error.SessionError.TheVariants as session
use Rattle.fa_session.specs.Refusals as session_refusals
use Rattle.fa_ledger.specs.Passing.{ledger_checks}
use Rattle.fa_ledger.specs.Standing.{PlainStanding, IsNextBehind}
use Rattle.fa_watch.specs.Refusals.{session_refusal, IsRefusal}
use Rattle.fa_watch.specs.parts.Streams.{AreShown}

-- what the session refuses
pub session_refuses : (c : List Message) (m : Message) (error : SessionError) → session_refusals.IsRefusal c m error → IsRefusal c m (session_refusal error)
session_refuses c m (session.Refused code) refusal = fails_first (session_checks c m) (ledger_checks c m) code refusal
session_refuses c m session.Memory refusal = tt

-- the next event of a session is the next one behind the messages
pub next_behind : (c : List Message) (m : Message) (s : PlainSession) (l : PlainStanding) (e : PlainEvent) → AreShown c s l → length c < MAX_MESSAGES → IsAllowed c m → IsEvent c m e → IsNextBehind c m l e
next_behind c m s l e both few allowed event = record { shows = both.behind; few = few; allowed = allowed; event = event }
