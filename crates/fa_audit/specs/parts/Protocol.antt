-- Messages that keep the protocol.
use Rattle.std.specs.Prelude.{List}
use Rattle.fa_capture.specs.declared.capture.Capture.{Capture}
use Rattle.fa_capture.specs.Captures.{records_of}
use Rattle.fa_capture.specs.Message.{Message, without_times}
use Rattle.fa_session.specs.Plain.{PlainSession}
use Rattle.fa_session.specs.Shows as sessions
use Rattle.fa_ledger.specs.Plain.{PlainLedger}
use Rattle.fa_ledger.specs.Shows as ledgers

-- the messages of a capture
abbrev pub messages_of : Capture → List Message
messages_of capture = without_times (records_of capture)

-- the session and the ledger show these messages
pub record ShowBoth (c : List Message) (s : PlainSession) (l : PlainLedger) : Type 0 where
  pub session : sessions.Shows c s
  pub ledger : ledgers.Shows c l
