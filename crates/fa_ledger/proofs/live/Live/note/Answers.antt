use Rattle.fa_bodies.specs.Requests.{request_shown}
use Rattle.fa_bodies.specs.Replies.{reply_shown}
use Rattle.fa_ledger.proofs.LedgerLemmas.{asked_hold, asked_refused, answered_hold, answered_refused, notice_hold}
use Rattle.fa_ledger.proofs.LiveLemmas.{notice_shows}
use Rattle.fa_ledger.proofs.TableLemmas.{ok_also, err_also}
use Rattle.fa_ledger.proofs.live.Live.note.Goals as goal

pub returns-in-Asked-clause-keeps : goal.returns-in-Asked-clause-keeps
returns-in-Asked-clause-keeps c =
    rw c.in-Asked.is (ok_also c.note_request.result _ _
    (λ keeps before m es stands. asked_hold before m es c.in-Asked.at (request_shown c.in-Asked.message.request) stands.are stands.event (keeps before m es stands)) c.note_request.ensures.keeps)

pub returns-in-Asked-clause-shows : goal.returns-in-Asked-clause-shows
returns-in-Asked-clause-shows c = rw c.in-Asked.is c.note_request.ensures.shows

pub returns-in-Asked-clause-refused : goal.returns-in-Asked-clause-refused
returns-in-Asked-clause-refused c =
    rw c.in-Asked.is (err_also c.note_request.result _ _
    (λ error why before m es stands. asked_refused before m es c.in-Asked.at (request_shown c.in-Asked.message.request) _ error stands.are stands.event (why before m es stands)) c.note_request.ensures.refused)

pub returns-in-Answered-clause-keeps : goal.returns-in-Answered-clause-keeps
returns-in-Answered-clause-keeps c =
    rw c.in-Answered.is (ok_also c.note_reply.result _ _
    (λ may before m es stands. answered_hold before m c.in-Answered.at c.in-Answered.asked (request_shown c.in-Answered.messages.to.request) (reply_shown c.in-Answered.messages.reply) stands.event may) c.note_reply.ensures.allowed)

pub returns-in-Answered-clause-shows : goal.returns-in-Answered-clause-shows
returns-in-Answered-clause-shows c = rw c.in-Answered.is c.note_reply.ensures.shows

pub returns-in-Answered-clause-refused : goal.returns-in-Answered-clause-refused
returns-in-Answered-clause-refused c =
    rw c.in-Answered.is (err_also c.note_reply.result _ _
    (λ error why before m es stands. answered_refused before m c.in-Answered.at c.in-Answered.asked (request_shown c.in-Answered.messages.to.request) (reply_shown c.in-Answered.messages.reply) _ error stands.event (why before m es stands)) c.note_reply.ensures.refused)

pub returns-in-Notice-clause-keeps : goal.returns-in-Notice-clause-keeps
returns-in-Notice-clause-keeps c = rw c.in-Notice.is (λ before m es stands. notice_hold before m c.in-Notice.at stands.event)

pub returns-in-Notice-clause-shows : goal.returns-in-Notice-clause-shows
returns-in-Notice-clause-shows c = rw c.in-Notice.is (λ before m es stands. notice_shows before m es c.in-Notice.at c.args.self.now stands)
