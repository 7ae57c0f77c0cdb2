use Rattle.std.proofs.Common.{◌∷◌, ◌++◌, List, [], OnOk, subst}
use Rattle.fa_capture.specs.Message.{Message}
use Rattle.fa_session.specs.Events.{event_shown}
use Rattle.fa_ledger.specs.Plain.{PlainLedger}
use Rattle.fa_ledger.specs.Refusals.{IsNext}
use Rattle.fa_ledger.specs.Shows as ledgers
use Rattle.fa_tests.proofs.paired.noted.Goals as goal

-- src/paired.rt:37:1
pub returns-in-Err-Memory-clause-shows : goal.returns-in-Err-Memory-clause-shows
returns-in-Err-Memory-clause-shows c =
    subst (λ (s : PlainLedger). OnOk c.accept-in-Err-Memory.result ((before : List Message) (m : Message) → IsNext before m s (event_shown c.args.event.now) → ledgers.Shows (before ++ m ∷ []) c.accept-in-Err-Memory.new.self))
    c.in-Err-Memory.ensures.unchanged c.accept-in-Err-Memory.ensures.shows
