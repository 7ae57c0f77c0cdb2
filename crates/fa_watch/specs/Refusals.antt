-- Why a message is not taken.
use Rattle.std.specs.Prelude.{List}
use Rattle.fa_capture.specs.Checks.{FirstFailure}
use Rattle.fa_capture.specs.Message.{Message}
use Rattle.fa_session.specs.declared.error.SessionError.{SessionError}
use Rattle.fa_session.specs.declared.error.SessionError.TheVariants as session
use Rattle.fa_ledger.specs.declared.error.LedgerError.{LedgerError}
use Rattle.fa_ledger.specs.declared.error.LedgerError.TheVariants as ledger
use Rattle.fa_ledger.specs.Passing.{message_checks}
use Rattle.fa_watch.specs.declared.message.MessageError.{MessageError}
use Rattle.fa_watch.specs.declared.message.MessageError.TheVariants.{Refused, Memory}

-- as what the refusal of a session is told
abbrev pub session_refusal : SessionError → MessageError
session_refusal (session.Refused code) = Refused code
session_refusal session.Memory = Memory

-- as what the refusal of a ledger is told
abbrev pub ledger_refusal : LedgerError → MessageError
ledger_refusal (ledger.Refused code) = Refused code
ledger_refusal ledger.Memory = Memory

-- where the message after these messages was refused for a fault, this is the code of the first check that it fails
abbrev pub IsRefusal : List Message → Message → MessageError → Type 0
IsRefusal before m (Refused code) = FirstFailure (message_checks before m) code
IsRefusal before m Memory = Unit {0}
