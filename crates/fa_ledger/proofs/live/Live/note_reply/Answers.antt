use Rattle.std.proofs.lemmas.Result.{err_from_is_err_and}
use Rattle.fa_ledger.proofs.live.Live.note_reply.Goals as goal

pub returns-in_err-note_answer-clause-refused : goal.returns-in_err-note_answer-clause-refused
returns-in_err-note_answer-clause-refused c =
    let p = err_from_is_err_and c.from_residual.result c.from_residual.ensures.1 in
    rw (p.1, p.2) (λ before m es stands. (c.may_be_given.ensures.0 c.if-not-may_be_given.false, c.in_err-note_answer.ensures.wanted before m es stands))
