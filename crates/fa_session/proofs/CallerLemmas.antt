-- The lemmas for the crates above.
use Rattle.fa_bodies.proofs.CallerLemmas.{request_is_one, reply_head_is_one}
use Rattle.fa_session.specs.Laws.{AnswersOne, AnsweredOnce}
use Rattle.fa_session.proofs.LawsLemmas.{answers_one_lem, answered_once_lem}
-- one message more: requests, what is outstanding, answers, what is allowed
pub use Rattle.fa_session.proofs.GrowthLemmas.{one_direction, asked_before, asked_still, asked_now, asked_cases}
pub use Rattle.fa_session.proofs.GrowthLemmas.{waited, not_now, waits_now, waits_still}
pub use Rattle.fa_session.proofs.GrowthLemmas.{answered_now, answered_still, answered_cases, replied_still, settled_still, allowed_more}
-- requests and their answers
pub use Rattle.fa_session.proofs.LawsLemmas.{one_request, answered_asked, answer_after}
-- what two tests say together
pub use Rattle.fa_session.proofs.TableLemmas.{both_first, both_second}

-- a message answers at most one request
pub answers_one : AnswersOne
answers_one = answers_one_lem request_is_one reply_head_is_one

-- a request is answered by at most one message
pub answered_once : AnsweredOnce
answered_once = answered_once_lem request_is_one
