-- Sessions that have taken at most so many messages.
use Rattle.std.specs.Prelude.{◌≤◌, ℕ, List, length}
use Rattle.fa_capture.specs.Message.{Message}
use Rattle.fa_session.specs.Plain.{PlainSession}
use Rattle.fa_session.specs.Shows.{Shows}

-- The session shows some messages, and no more than this number.
abbrev pub ShowsAtMost : ℕ → PlainSession → Type 0
ShowsAtMost most s = (c : List Message) × Shows c s × (length c ≤ most)
