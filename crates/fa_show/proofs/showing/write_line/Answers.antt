use Rattle.fa_show.proofs.AddedLemmas.{added_text, added_more}
use Rattle.fa_show.proofs.showing.write_line.Goals as goal

pub returns-clause-added : goal.returns-clause-added
returns-clause-added g c =
    let output = g.W.Output in
    let old = output.written c.args.out.now in
    let between = output.written c.put.new.self in
    added_more old between (output.written c.write_rest.new.out) (added_text old between c.as_bytes.result.now c.as_bytes.ensures c.in_ok-put.ensures.bytes) c.in_ok-write_rest.ensures.added
