-- What came of calls.
use Rattle.std.proofs.Common.{◌≡◌, Option, None, Some, refl, sym, subst, ◌∙◌, List}
use Rattle.std.proofs.lemmas.Option.{same_Some}
use Rattle.fa_capture.specs.Message.{Message}
use Rattle.fa_bodies.specs.Replies.{PlainReply}
use Rattle.fa_session.specs.Events.{PlainEvent}
use Rattle.fa_session.specs.Events.PlainEvent.{Answered}
use Rattle.fa_ledger.specs.Events.{AreEvents}
use Rattle.fa_ledger.specs.declared.operation.Outcome.TheVariants.{Unanswered}
use Rattle.fa_ledger.specs.Calls.{PlainAnswer, PlainCall, HasAnswer, IsAnswerOf, IsCall}
use Rattle.fa_ledger.specs.Operations.{PlainOperation, operation_of, ended}
use Rattle.fa_ledger.specs.Laws.{CallsEndWhereAnswered}
use Rattle.fa_ledger.proofs.CallStepLemmas.{message_of}
use Rattle.fa_ledger.proofs.OperationLemmas.{ComesTo, not_unanswered, unanswered_there, reply_comes}

-- the operation of a call is made of its request, and of its reply, if it has one
pub operation_made : (es : List PlainEvent) (call : PlainCall) (is : IsCall es call) → (reply : Option PlainReply) × (operation_of is.request.body reply ≡ Some call.operation)
operation_made es call is = by call.answer is.answered
  where
    by : (found : Option PlainAnswer) → HasAnswer es is.request call found → (reply : Option PlainReply) × (operation_of is.request.body reply ≡ Some call.operation)
    by None has = (None, has.does)
    by (Some answer) has = (Some has.reply, has.does)

-- what came of a call is what its answer says
pub answer_comes : (c : List Message) (es : List PlainEvent) → AreEvents c es → (call : PlainCall) (is : IsCall es call) (answer : PlainAnswer) (of : IsAnswerOf es is.request call answer)
    → ComesTo is.request.body of.reply call.operation
answer_comes c es are call is answer of =
    let message = message_of c es are answer.at (Answered answer.at call.asked is.request of.reply) of.there in
    reply_comes is.request message.0.bytes of.reply call.operation message.2.2 of.does

pub calls_end_where_answered : CallsEndWhereAnswered
calls_end_where_answered c es call are is = by call.answer refl is.answered
  where
    by : (found : Option PlainAnswer) → call.answer ≡ found → HasAnswer es is.request call found → ((ended call.operation ≡ Unanswered) → call.answer ≡ None) × (call.answer ≡ None → ended call.operation ≡ Unanswered)
    by None none has =
        let one = unanswered_there is.request.body is.asked.tree in
        let same : one.0 ≡ call.operation = same_Some one.0 call.operation (sym one.1 ∙ has.does) in
        ((λ ends. none), (λ waits. subst (λ (o : PlainOperation). ended o ≡ Unanswered) same one.2))
    by (Some answer) some has =
        let comes = answer_comes c es are call is answer has in (
          (λ ends. absurd (not_unanswered has.reply (sym comes.ends ∙ ends))),
          (λ none. let clash : Some answer ≡ None = sym some ∙ none in absurd cc),
        )
