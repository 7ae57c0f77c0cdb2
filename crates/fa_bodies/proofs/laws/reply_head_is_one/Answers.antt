use Rattle.fa_bodies.proofs.ReplyLaws.{head-one}
use Rattle.fa_bodies.proofs.laws.reply_head_is_one.Goals as goal

pub returns : goal.returns
returns c = head-one
