use Rattle.std.proofs.lemmas.Result.{on_ok_weaker}
use Rattle.std.specs.Io.KnownBytes.{Appends, append_known}
use Rattle.fa_capture.specs.Message.{recorded}
use Rattle.fa_capture.proofs.MigrateLemmas.{record_put}
use Rattle.fa_capture.proofs.migration.put_record.Goals as goal

pub returns-clause-record : goal.returns-clause-record
returns-clause-record g c =
    let output = g.W.Output in
    let old = append_known (output.written c.args.out.now) c.args.gathered.now.items in
    let one = append_known (output.written c.put_behind.new.out) c.put_behind.new.gathered.items in
    let two = append_known (output.written c.put_behind-2.new.out) c.put_behind-2.new.gathered.items in
    let three = append_known (output.written c.put_behind-3.new.out) c.put_behind-3.new.gathered.items in
    let four = append_known (output.written c.put_behind-4.new.out) c.put_behind-4.new.gathered.items in
    on_ok_weaker c.put_behind-4.result
    (λ (put : Appends three four c.args.packet.now.bytes.now). record_put (recorded c.args.packet.now) old one two three four _ _ _ c.to_byte.ensures c.to_le_bytes.ensures c.to_le_bytes-2.ensures
    c.in_ok-put_behind.ensures.bytes c.in_ok-put_behind-2.ensures.bytes c.in_ok-put_behind-3.ensures.bytes put)
    c.put_behind-4.ensures.bytes
