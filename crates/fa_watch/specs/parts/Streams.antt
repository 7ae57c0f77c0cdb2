-- What is kept of a stream, and the messages that it shows.
use Rattle.std.specs.Prelude.{ℕ, List, ◌++◌}
use Rattle.fa_capture.specs.Incoming.{HasCome}
use Rattle.fa_capture.specs.Message.{Message, Recorded, without_times}
use Rattle.fa_capture.specs.Pieces.{IsOpen}
use Rattle.fa_session.specs.Plain.{PlainSession}
use Rattle.fa_session.specs.Shows.{Shows}
use Rattle.fa_ledger.specs.Standing.{PlainStanding, ShowsStanding}
use Rattle.fa_watch.specs.declared.stream.Stream.{Stream}
use Rattle.fa_watch.specs.declared.watching.Seen.{Seen}
use Rattle.fa_watch.specs.Watched.{IsSeen, IsDecidedSeen}

-- the session shows these messages, and this stands behind them
pub record AreShown (c : List Message) (session : PlainSession) (standing : PlainStanding) : Type 0 where
  pub in_session : Shows c session
  pub behind : ShowsStanding c standing

-- Of the records of these bytes, which have come, some are to be taken still. The messages of those before them are shown.
pub record IsTaking (bytes : List ℕ) (taken left : List Recorded) (stream : Stream) (session : PlainSession) : Type 0 where
  pub come : HasCome bytes (taken ++ left) stream.incoming
  pub shown : AreShown (without_times taken) session stream.standing

-- these bytes of the stream have come, with these records, and their messages are shown
pub record HasBeen (bytes : List ℕ) (rs : List Recorded) (stream : Stream) (session : PlainSession) : Type 0 where
  pub come : HasCome bytes rs stream.incoming
  pub shown : AreShown (without_times rs) session stream.standing

-- these bytes have come, with these records and some more or none, and no framing fault is decided
pub record IsReadFurther (bytes : List ℕ) (rs : List Recorded) (stream : Stream) (session : PlainSession) : Type 0 where
  pub more : List Recorded
  pub been : HasBeen bytes (rs ++ more) stream session
  pub opens : IsOpen bytes

-- this is seen of the bytes, and is decided
pub record IsSeenAtOnce (bytes : List ℕ) (seen : Seen) : Type 0 where
  pub now : IsSeen bytes seen
  pub stays : IsDecidedSeen bytes seen
