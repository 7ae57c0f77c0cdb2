-- Messages have one list of events at most.
use Rattle.std.proofs.Common.{◌≡◌, ℕ, zero, suc, ◌<◌, List, [], ◌∷◌, length, take, Some, refl, sym, ap, subst, ◌∙◌, arith}
use Rattle.std.specs.Prelude.{slice_get}
use Rattle.std.proofs.lemmas.Option.{slice_get_within}
use Rattle.fa_capture.specs.Message.{Message}
use Rattle.fa_bodies.specs.declared.replies.ReplyHead.{ReplyHead}
use Rattle.fa_bodies.specs.Requests.{PlainRequest}
use Rattle.fa_bodies.specs.Replies.{IsReply}
use Rattle.fa_bodies.proofs.CallerLemmas.{request_is_one, reply_head_is_one, reply_is_one}
use Rattle.fa_session.specs.Answers.{IsReplyMessage, IsNotificationMessage}
use Rattle.fa_session.specs.Events.{PlainEvent, IsEvent}
use Rattle.fa_session.specs.Events.PlainEvent.{Asked, Answered, Notice}
use Rattle.fa_session.proofs.CallerLemmas.{answers_one, one_direction}
use Rattle.fa_ledger.specs.Laws.{EventsAreOne}

-- ---- lists

-- each place of a list has something
pub element_at : {X : Type 0} (xs : List X) (i : ℕ) → i < length xs → (x : X) × (slice_get xs i ≡ Some x)
element_at [] i below = absurd (omega (arith, below))
element_at (x ∷ xs) zero below = (x, refl)
element_at (x ∷ xs) (suc i) below = element_at xs i (omega (arith, below))

-- lists that are as long and have the same at each place are one
pub same_places : {X : Type 0} (xs ys : List X) → length xs ≡ length ys
    → ((i : ℕ) (x y : X) → slice_get xs i ≡ Some x → slice_get ys i ≡ Some y → x ≡ y) → xs ≡ ys
same_places [] [] long each = refl
same_places [] (y ∷ ys) long each = absurd (omega (arith, long))
same_places (x ∷ xs) [] long each = absurd (omega (arith, long))
same_places (x ∷ xs) (y ∷ ys) long each =
    let first : x ≡ y = each 0 x y refl refl in
    let rest : xs ≡ ys = same_places xs ys (omega (arith, long)) (λ i a b here there. each (suc i) a b here there) in
    cc

-- ---- one event

pub notice_no_reply : (m : Message) (unique : ℕ) → IsNotificationMessage m → IsReplyMessage m unique → ⊥
notice_no_reply m unique notice reply =
    let same : notice.0 ≡ reply.0 = reply_head_is_one m.bytes notice.0 reply.0 notice.1.1 reply.1.1 in
    reply.3 (sym reply.2 ∙ ap (λ (h : ReplyHead). h.unique) (sym same) ∙ notice.2)

-- a message is one event at most
pub event_is_one : (before : List Message) (m : Message) (a b : PlainEvent) → IsEvent before m a → IsEvent before m b → a ≡ b
event_is_one before m (Asked at r) (Asked bt s) is too =
    let places : at ≡ bt = is.0 ∙ sym too.0 in
    let requests : r ≡ s = request_is_one m.bytes r s is.1.1 too.1.1 in
    cc
event_is_one before m (Asked at r) (Answered bt p s reply) is too = absurd (one_direction m is.1.0 too.1.reply.1.0)
event_is_one before m (Asked at r) (Notice bt) is too = absurd (one_direction m is.1.0 too.1.1.0)
event_is_one before m (Answered at p r reply) (Asked bt s) is too = absurd (one_direction m too.1.0 is.1.reply.1.0)
event_is_one before m (Answered at p r reply) (Answered bt q s said) is too =
    let places : at ≡ bt = is.0 ∙ sym too.0 in
    let both = answers_one before m p q r s is.1 too.1 in
    let numbers : p ≡ q = both.0 in
    let requests : r ≡ s = both.1 in
    let replies : reply ≡ said = reply_is_one s m.bytes reply said (subst (λ (x : PlainRequest). IsReply x m.bytes reply) requests is.2) too.2 in
    cc
event_is_one before m (Answered at p r reply) (Notice bt) is too = absurd (notice_no_reply m r.unique too.1 is.1.reply)
event_is_one before m (Notice at) (Asked bt s) is too = absurd (one_direction m too.1.0 is.1.1.0)
event_is_one before m (Notice at) (Answered bt q s said) is too = absurd (notice_no_reply m s.unique is.1 too.1.reply)
event_is_one before m (Notice at) (Notice bt) is too =
    let places : at ≡ bt = is.0 ∙ sym too.0 in
    cc

-- ---- all events

pub events_are_one : EventsAreOne
events_are_one c es others are too =
    same_places es others (are.counted ∙ sym too.counted) (λ i a b here there.
    let message = element_at c i (let within = slice_get_within es i a here in omega (arith, within, are.counted)) in
    event_is_one (take i c) message.0 a b (are.each i message.0 a message.1 here) (too.each i message.0 b message.1 there))
