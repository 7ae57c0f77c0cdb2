use Rattle.fa_show.proofs.FollowLemmas.{replay_few, replays_one, replayed}
use Rattle.fa_show.proofs.following.rewound.Goals as goal

pub accept-requires : goal.accept-requires
accept-requires c =
    let (before, shows, few) = c.requires in
    replay_few _ c.args.since.now c.loop-packet.packet-index _ before c.loop-packet-test.true shows few c.loop-packet.invariant

pub loop-packet-preserved : goal.loop-packet-preserved
loop-packet-preserved c =
    replays_one _ c.args.since.now c.loop-packet.packet-index _ _ _ c.loop-packet-test.true c.in-Ok.ensures.shows c.loop-packet.invariant

pub returns : goal.returns
returns c =
    replayed _ c.args.since.now c.loop-packet.packet-index _ _ c.loop-packet-test.false c.in_ok-park.ensures c.loop-packet.invariant
