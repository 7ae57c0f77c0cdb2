-- What a message that is allowed is.
use Rattle.std.specs.Prelude.{◌≡◌, ℕ, List, length}
use Rattle.fa_capture.specs.Message.{Message}
use Rattle.fa_bodies.specs.Requests.{PlainRequest, request_shown}
use Rattle.fa_bodies.specs.Replies.{PlainReply, IsReply, reply_shown}
use Rattle.fa_session.specs.declared.event.Event.{Event}
use Rattle.fa_session.specs.declared.event.Event.TheVariants as declared
use Rattle.fa_session.specs.Answers.{IsRequestMessage, IsNotificationMessage, Answers}

-- An event, without where its names and payloads lie in memory.
pub data PlainEvent : Type 0 where
  Asked : (at : ℕ) (request : PlainRequest) → PlainEvent
  Answered : (at asked : ℕ) (request : PlainRequest) (reply : PlainReply) → PlainEvent
  Notice : (at : ℕ) → PlainEvent

-- what an event shows
abbrev pub event_shown : Event → PlainEvent
event_shown (declared.Asked at message) = Asked at (request_shown message.request)
event_shown (declared.Answered at asked tag messages) = Answered at asked (request_shown messages.to.request) (reply_shown messages.reply)
event_shown (declared.Notice at) = Notice at

-- The event of the message that follows these messages: a request, the reply to the request that it answers, or a
-- notification.
abbrev pub IsEvent : List Message → Message → PlainEvent → Type 0
IsEvent before m (Asked at r) = (at ≡ length before) × IsRequestMessage m r
IsEvent before m (Answered at asked r reply) = (at ≡ length before) × Answers before m asked r × IsReply r m.bytes reply
IsEvent before m (Notice at) = (at ≡ length before) × IsNotificationMessage m

-- The bytes of the event's own message, if it has them, are these. A notification has none.
abbrev pub HasBytes : List ℕ → Event → Type 0
HasBytes bytes (declared.Asked at message) = message.bytes.now ≡ bytes
HasBytes bytes (declared.Answered at asked tag messages) = messages.bytes.now ≡ bytes
HasBytes bytes (declared.Notice at) = Unit {0}
