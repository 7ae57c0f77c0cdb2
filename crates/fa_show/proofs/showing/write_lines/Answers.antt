use Rattle.std.specs.Io.KnownBytes.{Appends}
use Rattle.std.proofs.lemmas.Result.{on_ok_weaker}
use Rattle.fa_capture.proofs.CallerLemmas.{still_unbroken}
use Rattle.fa_show.proofs.AddedLemmas.{added_text, added_more}
use Rattle.fa_show.proofs.showing.write_lines.Goals as goal
use Rattle.fa_show.proofs.showing.write_lines.Goals.{then-takes+in_ok-write_line, else-takes}

pub loop-packet-preserved : goal.loop-packet-preserved
loop-packet-preserved g c =
    let output = g.W.Output in
    let before = c.loop-packet.out in
    elim c.if-takes.branch [
      | then-takes+in_ok-write_line w ↦
          let then = w.write_line.new.out in
          rw w.out-is (
            added_more (output.written c.args.out.now) (output.written before) (output.written then) c.loop-packet.invariant.0 w.in_ok-write_line.ensures.added,
            still_unbroken (output.is_broken c.args.out.now) (output.is_broken before) (output.is_broken then) c.loop-packet.invariant.1 w.in_ok-write_line.ensures.broken,
          )
      | else-takes w ↦ rw w.out-is c.loop-packet.invariant
    ]

pub returns-clause-added : goal.returns-clause-added
returns-clause-added g c =
    let output = g.W.Output in
    let between = output.written c.loop-packet.out in
    let new = output.written c.put.new.self in
    on_ok_weaker c.put.result
    (λ (added : Appends between new c.as_bytes.result.now). added_more (output.written c.args.out.now) between new c.loop-packet.invariant.0
    (added_text between new c.as_bytes.result.now c.as_bytes.ensures added))
    c.put.ensures.bytes
