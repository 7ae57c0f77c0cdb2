use Rattle.std.proofs.Common.{Option, ap, sym, ◌∙◌, option_map}
use Rattle.std.proofs.lemmas.Option.{same_Some}
use Rattle.fa_bodies.specs.Requests.{request_shown, body_shown}
use Rattle.fa_bodies.specs.Replies.{PlainReply, reply_shown}
use Rattle.fa_ledger.specs.declared.operation.Operation.{Operation}
use Rattle.fa_ledger.specs.Operations.{operation_of, operation_shown}
use Rattle.fa_ledger.proofs.SaidLemmas.{asked_there, said_there, does_there, seen_through, some_found}
use Rattle.fa_ledger.proofs.messages.CallMessages.operation.Goals as goal

pub asked_in-asked-requires : goal.asked_in-asked-requires
asked_in-asked-requires c = asked_there _ _ c.args.self.now.said

pub answer_in-answer-requires : goal.answer_in-answer-requires
answer_in-answer-requires c = said_there _ _ c.args.self.now.said (request_shown c.asked_in-asked.result) c.asked_in-asked.ensures

pub unwrap-requires : goal.unwrap-requires
unwrap-requires c =
    let seen = seen_through c.as_ref.result c.answer_in-answer.result c.as_ref.ensures.value in
    some_found c.of.result (c.of.ensures ∙ ap (λ (s : Option PlainReply). operation_of (body_shown c.asked_in-asked.result.body) s) seen
    ∙ does_there _ _ c.args.self.now.said (request_shown c.asked_in-asked.result) (option_map reply_shown c.answer_in-answer.result) c.asked_in-asked.ensures c.answer_in-answer.ensures)

pub returns : goal.returns
returns c =
    let seen = seen_through c.as_ref.result c.answer_in-answer.result c.as_ref.ensures.value in
    same_Some (operation_shown c.unwrap.result) c.args.self.now.said.0
    (sym (ap (λ (o : Option Operation). option_map operation_shown o) c.unwrap.ensures) ∙ c.of.ensures ∙ ap (λ (s : Option PlainReply). operation_of (body_shown c.asked_in-asked.result.body) s) seen
    ∙ does_there _ _ c.args.self.now.said (request_shown c.asked_in-asked.result) (option_map reply_shown c.answer_in-answer.result) c.asked_in-asked.ensures c.answer_in-answer.ensures)
