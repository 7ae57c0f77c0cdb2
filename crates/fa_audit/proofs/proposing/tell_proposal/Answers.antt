use Rattle.fa_audit.proofs.ProposalLemmas.{refusal_told}
use Rattle.fa_audit.proofs.proposing.tell_proposal.Goals as goal

pub returns-in-Err-clause-answered : goal.returns-in-Err-clause-answered
returns-in-Err-clause-answered g c = refusal_told c.tell.result c.args.proposal c.in-Err.error c.answer.result c.in-Err.is c.answer.ensures c.tell.ensures.answered
