-- How far a watch has come.
use Rattle.std.specs.Prelude.{◌≡◌, ℕ, ◌+◌, ◌<◌, ◌≤◌, Bool, false, List, length, Option}
use Rattle.std.specs.Io.KnownBytes.{Consumes}
use Rattle.fa_capture.specs.Message.{Recorded}
use Rattle.fa_capture.specs.Pieces.{IsOpen}
use Rattle.fa_capture.specs.declared.input.TheConstants.{MAX_READ_LIMIT, SPARE_PULLS}
use Rattle.fa_session.specs.Plain.{PlainSession}
use Rattle.fa_watch.specs.declared.stream.Stream.{Stream}
use Rattle.fa_watch.specs.parts.Streams.{HasBeen}

-- These bytes were read in so many pulls, and are no fault; none failed. A pull that was not interrupted gave a byte or more.
pub record IsSoFar (old new : Option (List ℕ)) (stream : Stream) (session : PlainSession) (failed interrupted : Bool) (pulls : ℕ) : Type 0 where
  pub bytes : List ℕ
  pub rs : List Recorded
  pub read : Consumes old new bytes
  pub been : HasBeen bytes rs stream session
  pub opens : IsOpen bytes
  pub short : length bytes < MAX_READ_LIMIT + SPARE_PULLS
  pub unfailed : failed ≡ false
  pub counted : interrupted ≡ false → pulls ≤ length bytes
