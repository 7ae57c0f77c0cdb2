use Rattle.fa_bodies.proofs.ReplyLaws.{head-checks}
use Rattle.fa_bodies.proofs.laws.reply_head_passes_checks.Goals as goal

pub returns : goal.returns
returns c = head-checks
