use Rattle.std.proofs.Common.{Option, Some, None, refl}
use Rattle.std.specs.Prelude.{IfNone}
use Rattle.std.specs.Option.{IsSome}
use Rattle.fa_bodies.specs.Requests.{request_shown}
use Rattle.fa_bodies.specs.Replies.{reply_shown}
use Rattle.fa_ledger.proofs.ReplyBookLemmas.{answer_refused, no_call_waits, plain_shows}
use Rattle.fa_ledger.proofs.TableLemmas.{err_also}
use Rattle.fa_ledger.proofs.books.Books.note_reply.Goals as goal

pub returns-then-not-is_tree_request-clause-shows : goal.returns-then-not-is_tree_request-clause-shows
returns-then-not-is_tree_request-clause-shows c = λ before m es stands.
    plain_shows before m es c.args.at c.args.asked (request_shown c.args.messages.now.to.request) (reply_shown c.args.messages.now.reply) c.args.self.now _ c.settles_truncation.result stands
    (λ tree. let yes = c.is_tree_request.ensures.1 tree in let no = c.if-not-is_tree_request.true in absurd cc)
    c.settles_truncation.ensures refl refl refl refl

pub unwrap-place-requires : goal.unwrap-place-requires
unwrap-place-requires c =
    let stands = c.requires in
    by c.find.result (λ none. no_call_waits stands.0 stands.1 stands.2 c.args.at c.args.asked (request_shown c.args.messages.now.to.request) (reply_shown c.args.messages.now.reply) c.args.self.now stands.3 none
    (c.is_tree_request.ensures.0 c.if-not-is_tree_request.false)) c.find.ensures.none
  where
    by : {A P : Type 0} (found : Option A) → (P → ⊥) → IfNone found P → IsSome found
    by (Some x) never none = refl
    by None never none = absurd (never none)

pub returns-clause-refused : goal.returns-clause-refused
returns-clause-refused c =
    err_also c.note_answer.result _ _ (λ error why before m es stands.
    answer_refused before m es c.args.at c.args.asked (request_shown c.args.messages.now.to.request) (reply_shown c.args.messages.now.reply) c.args.self.now error stands (c.may_be_given.ensures.0 c.if-not-may_be_given.false) why) c.note_answer.ensures.memory
