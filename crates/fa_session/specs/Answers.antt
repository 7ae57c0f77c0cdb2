-- Which request a reply answers, and which requests still wait for one: by `unique` of struct fuse_in_header, which
-- struct fuse_out_header of fuse.h repeats. What is said of a message depends on it and on the messages before it alone.
use Rattle.std.specs.Prelude.{◌≡◌, ◌≢◌, ℕ, ◌<◌, ◌⊎◌, List, slice_get, take, Some}
use Rattle.fa_capture.specs.declared.packet.Direction.TheVariants.{ToServer, FromServer}
use Rattle.fa_capture.specs.Message.{Message}
use Rattle.fa_bodies.specs.declared.replies.ReplyHead.{ReplyHead}
use Rattle.fa_bodies.specs.Requests.{PlainRequest, IsRequest, MayBeAnswered}
use Rattle.fa_bodies.specs.Replies.{PlainReply, IsReplyHead, IsReply}

-- the message is this request
abbrev pub IsRequestMessage : Message → PlainRequest → Type 0
IsRequestMessage m r = (m.direction ≡ ToServer) × IsRequest m.bytes r

-- the message is from the server, and this is its head
abbrev pub IsHeadMessage : Message → ReplyHead → Type 0
IsHeadMessage m head = (m.direction ≡ FromServer) × IsReplyHead m.bytes head

-- the message is a reply with this unique
abbrev pub IsReplyMessage : Message → ℕ → Type 0
IsReplyMessage m unique = (head : ReplyHead) × IsHeadMessage m head × (head.unique ≡ unique) × (unique ≢ 0)

-- The message is a notification: the server sent it, and its unique is 0. It is no reply and answers nothing.
abbrev pub IsNotificationMessage : Message → Type 0
IsNotificationMessage m = (head : ReplyHead) × IsHeadMessage m head × (head.unique ≡ 0)

-- message p of the list is this request
abbrev pub IsRequestAt : List Message → ℕ → PlainRequest → Type 0
IsRequestAt c p r = (m : Message) × (slice_get c p ≡ Some m) × IsRequestMessage m r

-- The message is a request or a reply with this unique. A notification, which is no reply, has none.
abbrev pub HasUnique : Message → ℕ → Type 0
HasUnique m unique =
    ((r : PlainRequest) × IsRequestMessage m r × (r.unique ≡ unique)) ⊎ IsReplyMessage m unique

-- After these messages the request at p is outstanding: it may be answered, and no message after it has its unique.
pub record IsOutstanding (before : List Message) (p : ℕ) (r : PlainRequest) : Type 0 where
  pub asked : IsRequestAt before p r
  pub answerable : MayBeAnswered r.body
  pub silent : (q : ℕ) (m : Message) → p < q → slice_get before q ≡ Some m → HasUnique m r.unique → ⊥

-- The message that follows these messages is a reply that answers the request at p: the request is outstanding, and the
-- reply has its unique.
pub record Answers (before : List Message) (m : Message) (p : ℕ) (r : PlainRequest) : Type 0 where
  pub reply : IsReplyMessage m r.unique
  pub outstanding : IsOutstanding before p r

-- message q of the list is a reply that answers the request at p
abbrev pub AnswersAt : List Message → ℕ → ℕ → PlainRequest → Type 0
AnswersAt c q p r = (m : Message) × (slice_get c q ≡ Some m) × Answers (take q c) m p r

-- message q of the list answers the request at p, and says this
abbrev pub IsRepliedAt : List Message → ℕ → ℕ → PlainRequest → PlainReply → Type 0
IsRepliedAt c q p r reply =
    (m : Message) × (slice_get c q ≡ Some m) × Answers (take q c) m p r × IsReply r m.bytes reply

-- the request at p is answered by message q
abbrev pub IsAnsweredBy : List Message → ℕ → ℕ → Type 0
IsAnsweredBy c p q = (r : PlainRequest) × AnswersAt c q p r

-- no message of the list answers the request at p
abbrev pub IsUnanswered : List Message → ℕ → Type 0
IsUnanswered c p = (q : ℕ) → IsAnsweredBy c p q → ⊥
