use Rattle.std.proofs.Common.{arith}
use Rattle.std.proofs.lemmas.Bool.Decides.{nat_tests}
use Rattle.fa_bodies.specs.Requests.{request_shown}
use Rattle.fa_bodies.specs.Replies.{reply_shown}
use Rattle.fa_ledger.proofs.SaidLemmas.{known_said, none_said, some_said}
use Rattle.fa_ledger.proofs.messages.answer_in.Goals as goal

pub known_reply-requires : goal.known_reply-requires
known_reply-requires c = some_said (request_shown c.args.asked.now) c.args.bytes.now (λ none. grind (arith, nat_tests, none, c.is_empty.ensures, c.if-is_empty.false)) c.requires

pub returns-then-is_empty : goal.returns-then-is_empty
returns-then-is_empty c = none_said (request_shown c.args.asked.now) c.args.bytes.now (grind (arith, nat_tests, c.is_empty.ensures, c.if-is_empty.true))

pub returns : goal.returns
returns c = known_said (request_shown c.args.asked.now) c.args.bytes.now (reply_shown c.known_reply.result) c.known_reply.ensures
