use Rattle.fa_bodies.proofs.ReplyLaws.{reply-one}
use Rattle.fa_bodies.proofs.laws.reply_is_one.Goals as goal

pub returns : goal.returns
returns c = reply-one
