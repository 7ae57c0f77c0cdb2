-- The events of messages: what each of them is, after those before it.
use Rattle.std.specs.Prelude.{◌≡◌, ℕ, List, length, slice_get, take, Some}
use Rattle.fa_capture.specs.Message.{Message}
use Rattle.fa_session.specs.Events.{PlainEvent, IsEvent}

-- For each message its event, in their order. Messages that the session allows have one such list.
pub record AreEvents (c : List Message) (es : List PlainEvent) : Type 0 where
  pub counted : length es ≡ length c
  pub each : (i : ℕ) (m : Message) (e : PlainEvent) → slice_get c i ≡ Some m → slice_get es i ≡ Some e
      → IsEvent (take i c) m e
