-- Ledgers, and sessions that show the same messages.
use Rattle.std.specs.Prelude.{◌≡◌, ◌<◌, ◌∷◌, ◌++◌, [], ℕ, List, length, Option, IfSome}
use Rattle.fa_capture.specs.declared.limits.TheConstants.{MAX_MESSAGES}
use Rattle.fa_capture.specs.Message.{Message}
use Rattle.fa_session.specs.Allowed.{IsAllowed}
use Rattle.fa_session.specs.Events.{PlainEvent, IsEvent}
use Rattle.fa_session.specs.Plain.{PlainSession}
use Rattle.fa_session.specs.Shows.{Shows}
use Rattle.fa_ledger.specs.Plain.{PlainLedger}
use Rattle.fa_ledger.specs.Shows as ledgers

-- The ledger shows some messages, of this number, and so does each of the sessions that is there.
abbrev pub AreLevel : ℕ → PlainLedger → Option PlainSession → Option PlainSession → Type 0
AreLevel taken ledger session spare =
    (c : List Message) × ledgers.Shows c ledger × (taken ≡ length c) × IfSome session (Shows c) × IfSome spare (Shows c)

-- The ledger shows some messages, of this number, and so does the session if it is there. The other session has taken this
-- message behind them, of which it said this event.
abbrev pub IsAhead : ℕ → PlainLedger → Option PlainSession → Message → PlainSession → PlainEvent → Type 0
IsAhead taken ledger spare m session event =
    (c : List Message) × ledgers.Shows c ledger × (taken ≡ length c) × (taken < MAX_MESSAGES) × IfSome spare (Shows c)
    × Shows (c ++ m ∷ []) session × IsAllowed c m × IsEvent c m event
