-- Captures that hold the same messages have the same answers.
use Rattle.std.proofs.Common.{ℕ, List, None, Ok, Err}
use Rattle.fa_capture.specs.Message.{Message}
use Rattle.fa_capture.proofs.CallerLemmas.{migrated_reads, reads_migrated}
use Rattle.fa_ledger.specs.Passing.{IsGoodCapture, IsFirstFault}
use Rattle.fa_check.specs.declared.verdict.Verdict.TheVariants.{Legal, Fault, NotShown}
use Rattle.fa_audit.specs.declared.verdict.AuditError.TheVariants.{OrderText, TreeText, Memory}
use Rattle.fa_audit.specs.Laws.{HoldsWhatIsIn, AnswersSeeNoTimes, MigratedHasTheSameAnswers}

-- the same messages are good
still_good : (capture other : List ℕ) (c : List Message) → HoldsWhatIsIn other capture → IsGoodCapture capture c → IsGoodCapture other c
still_good capture other c same good = record { read = same c None good.read; good = good.good }

-- or have the same first fault
still_at_fault : (capture other : List ℕ) (at code : ℕ) → HoldsWhatIsIn other capture → IsFirstFault capture at code → IsFirstFault other at code
still_at_fault capture other at code same f = record { messages = f.messages; framing = f.framing; read = same f.messages f.framing f.read; fault = f.fault }

pub answers_see_no_times : AnswersSeeNoTimes
answers_see_no_times capture other tree order (Ok (Legal messages placed left)) same is = record {
  messages = is.messages;
  first = is.first;
  last = is.last;
  entries = is.entries;
  good = still_good capture other is.messages same is.good;
  given = is.given;
  text = is.text;
  valid = is.valid;
  run = is.run;
  count_is = is.count_is;
  placed_are = is.placed_are;
  left_are = is.left_are;
}
answers_see_no_times capture other tree order (Ok (Fault at code)) same is = still_at_fault capture other at code same is
answers_see_no_times capture other tree order (Ok (NotShown entry at code)) same is =
    record { messages = is.messages; first = is.first; entries = is.entries; good = still_good capture other is.messages same is.good; given = is.given; text = is.text; fault = is.fault }
answers_see_no_times capture other tree order (Err (TreeText line)) same is =
    record { messages = is.messages; text = is.text; good = still_good capture other is.messages same is.good; handed_in = is.handed_in; fault = is.fault }
answers_see_no_times capture other tree order (Err (OrderText line)) same is =
    record { messages = is.messages; first = is.first; good = still_good capture other is.messages same is.good; given = is.given; fault = is.fault }
answers_see_no_times capture other tree order (Err Memory) same is = is

pub migrated_has_the_same_answers : MigratedHasTheSameAnswers
migrated_has_the_same_answers capture migrated tree order answer is = (
  answers_see_no_times capture migrated tree order answer (migrated_reads capture migrated is),
  answers_see_no_times migrated capture tree order answer (reads_migrated capture migrated is),
)
