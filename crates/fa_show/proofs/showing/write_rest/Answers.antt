use Rattle.std.proofs.Common.{rules}
use Rattle.fa_show.proofs.AddedLemmas.{added_text, added_more}
use Rattle.fa_show.proofs.showing.write_rest.Goals as goal

pub loop-preserved : goal.loop-preserved
loop-preserved g c =
    let output = g.W.Output in
    let between = output.written c.loop.out in
    let new = output.written c.put.new.self in
    (added_more (output.written c.args.out.now) between new c.loop.invariant.0 (added_text between new c.as_bytes.result.now c.as_bytes.ensures c.in_ok-put.ensures.bytes), search rules)
