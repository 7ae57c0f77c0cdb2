-- A session and a standing that took the same messages.
use Rattle.std.specs.Prelude.{◌≡◌, ℕ, List, length}
use Rattle.fa_capture.specs.Message.{Message}
use Rattle.fa_session.specs.Plain.{PlainSession}
use Rattle.fa_session.specs.Shows.{Shows}
use Rattle.fa_ledger.specs.Standing.{PlainStanding, ShowsStanding}

-- Both show the same messages, of this number.
abbrev pub ShowSome : ℕ → PlainSession → PlainStanding → Type 0
ShowSome taken session standing = (c : List Message) × Shows c session × ShowsStanding c standing × (taken ≡ length c)
