-- Why a session does not take a message.
use Rattle.std.specs.Prelude.{ℕ, ◌≢◌, List}
use Rattle.fa_capture.specs.Checks.{FirstFailure}
use Rattle.fa_capture.specs.Message.{Message}
use Rattle.fa_bodies.specs.Requests.{PlainRequest, MayBeAnswered}
use Rattle.fa_session.specs.declared.error.SessionError.{SessionError}
use Rattle.fa_session.specs.declared.error.SessionError.TheVariants.{Refused, Memory}
use Rattle.fa_session.specs.Answers.{IsRequestMessage, IsOutstanding}
use Rattle.fa_session.specs.Allowed.{session_checks, IsAllowed}

-- the message is a request that is outstanding from now on, with a unique that no outstanding request has
abbrev pub IsNewlyOutstanding : List Message → Message → Type 0
IsNewlyOutstanding before m =
    (r : PlainRequest) × IsRequestMessage m r × MayBeAnswered r.body
    × ((p : ℕ) (waiting : PlainRequest) → IsOutstanding before p waiting → waiting.unique ≢ r.unique)

-- The message after these messages is refused with the code of the first check that it fails. Memory is wanted only for
-- a message that is allowed, where one more request is outstanding after it.
abbrev pub IsRefusal : List Message → Message → SessionError → Type 0
IsRefusal before m (Refused code) = FirstFailure (session_checks before m) code
IsRefusal before m Memory = IsAllowed before m × IsNewlyOutstanding before m
