-- What messages that were taken one after the other leave.
use Rattle.std.specs.Prelude.{◌≤◌, List, length}
use Rattle.fa_capture.specs.Message.{Message}
use Rattle.fa_capture.specs.declared.limits.TheConstants.{MAX_MESSAGES}
use Rattle.fa_session.specs.Plain.{PlainSession}
use Rattle.fa_session.specs.Shows.{Shows}
use Rattle.fa_ledger.specs.Standing.{PlainStanding, ShowsStanding}
use Rattle.fa_show.specs.declared.following.Refusal.{Refusal}
use Rattle.fa_show.specs.declared.following.Refusal.TheVariants.{BySession, Behind, Memory}

-- the session shows these messages, and this stands behind them
pub record AreShown (c : List Message) (session : PlainSession) (standing : PlainStanding) : Type 0 where
  pub in_session : Shows c session
  pub behind : ShowsStanding c standing

-- they are shown, and are not too many
pub record IsHeld (c : List Message) (session : PlainSession) (standing : PlainStanding) : Type 0 where
  pub shown : AreShown c session standing
  pub few : length c ≤ MAX_MESSAGES

-- it is the session that refuses
abbrev pub IsBySession : Refusal → Type 0
IsBySession (BySession code) = Unit {0}
IsBySession (Behind code) = ⊥
IsBySession Memory = ⊥
