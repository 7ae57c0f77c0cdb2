use Rattle.std.proofs.Common.{take}
use Rattle.fa_show.proofs.FollowLemmas.{IsReplayed}
use Rattle.fa_show.proofs.following.rewound.Given as goal

abbrev pub invariant-loop-packet : goal.invariant-loop-packet
invariant-loop-packet l = IsReplayed l.parked (take l.packet-index l.since) l.session
