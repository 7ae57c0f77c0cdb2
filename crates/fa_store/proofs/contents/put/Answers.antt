use Rattle.std.proofs.Common.{◌+◌, ◌-◌, ◌%◌, ◌/◌, ◌≤◌, length, refl, arith}
use Rattle.fa_store.specs.parts.PageParts.{page_of}
use Rattle.fa_store.proofs.ContentsLemmas.{page_there, room_of_page, length-piece, piece_stored, piece_written}
use Rattle.fa_store.proofs.contents.put.Goals as goal

pub put-requires : goal.put-requires
put-requires c =
    rw (length-piece c.args.bytes.now c.loop-done.done c.min-count.result (omega arith))
    (room_of_page (page_of c.loop-done.pages) _ c.args.start (c.args.start + length c.args.bytes.now) (c.args.start + c.loop-done.done) c.min-count.result
    c.loop-done.invariant.stored (omega arith) (omega arith) (omega arith) (omega arith) (page_there (page_of c.loop-done.pages) (c.args.start + c.loop-done.done)))

pub loop-done-preserved : goal.loop-done-preserved
loop-done-preserved c =
    let found = page_there (page_of c.loop-done.pages) (c.args.start + c.loop-done.done) in
    let fits : c.loop-done.done + c.min-count.result ≤ length c.args.bytes.now = omega arith in
    let one : c.min-count.result ≤ 4096 - (c.args.start + c.loop-done.done) % 4096 = omega arith in
    let room : (c.args.start + c.loop-done.done) % 4096 + c.min-count.result ≤ length (page_of c.loop-done.pages ((c.args.start + c.loop-done.done) / 4096)) =
    room_of_page (page_of c.loop-done.pages) _ c.args.start (c.args.start + length c.args.bytes.now) (c.args.start + c.loop-done.done) c.min-count.result
    c.loop-done.invariant.stored (omega arith) (omega arith) (omega arith) one found in
    record {
      within = fits;
      stored = λ i from below. piece_stored (page_of c.put.new.self) (page_of c.loop-done.pages) (page_of c.args.pages.now) _ c.args.start c.args.bytes.now
          c.loop-done.done c.min-count.result c.put.ensures refl fits one room i (c.loop-done.invariant.stored i from below);
      written = piece_written (page_of c.put.new.self) (page_of c.loop-done.pages) (page_of c.args.pages.now) _ c.args.start c.args.bytes.now
          c.loop-done.done c.min-count.result c.put.ensures refl fits one room c.loop-done.invariant.written;
    }
