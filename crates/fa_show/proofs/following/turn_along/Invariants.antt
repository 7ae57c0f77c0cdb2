use Rattle.fa_show.proofs.FollowLemmas.{Follows}
use Rattle.fa_show.proofs.following.turn_along.Given as goal

abbrev pub invariant-loop : goal.invariant-loop
invariant-loop l = Follows l.fn.parked l.fn.standing l.since.items l.session l.standing
