use Rattle.std.specs.Io.KnownBytes.{Appends}
use Rattle.std.proofs.lemmas.Result.{on_ok_weaker}
use Rattle.fa_capture.proofs.CallerLemmas.{still_unbroken}
use Rattle.fa_show.proofs.AddedLemmas.{added_text, added_more}
use Rattle.fa_show.proofs.showing.write_table.Goals as goal

pub loop-opcode-preserved : goal.loop-opcode-preserved
loop-opcode-preserved g c =
    let output = g.W.Output in
    let before = c.loop-opcode.out in
    let then = c.write_block.new.out in (
      added_more (output.written c.args.out.now) (output.written before) (output.written then) c.loop-opcode.invariant.0 c.in_ok-write_block.ensures.added,
      still_unbroken (output.is_broken c.args.out.now) (output.is_broken before) (output.is_broken then) c.loop-opcode.invariant.1 c.in_ok-write_block.ensures.broken,
    )

pub returns-clause-added : goal.returns-clause-added
returns-clause-added g c =
    let output = g.W.Output in
    let between = output.written c.loop-opcode.out in
    let new = output.written c.put.new.self in
    on_ok_weaker c.put.result
    (λ (added : Appends between new c.as_bytes.result.now). added_more (output.written c.args.out.now) between new c.loop-opcode.invariant.0
    (added_text between new c.as_bytes.result.now c.as_bytes.ensures added))
    c.put.ensures.bytes
