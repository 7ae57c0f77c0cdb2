use Rattle.std.proofs.Common.{ap, sym, subst, ◌∙◌, List, ℕ}
use Rattle.fa_capture.specs.declared.format.Format.{Format}
use Rattle.fa_capture.specs.Records.{AreSpelledBy}
use Rattle.fa_capture.specs.Walks.{PlainWalk}
use Rattle.fa_capture.proofs.ArrivalLemmas.{records_are}
use Rattle.fa_capture.proofs.incoming.whole_records.Goals as goal

pub returns : goal.returns
returns c =
    let (on, over) = c.read_on-code.ensures.read in
    let format = sym on.same ∙ ap (λ (w : PlainWalk). w.format) c.so_far.ensures.is ∙ sym c.of-packets.ensures.format in
    let bytes = sym over ∙ sym c.in_ok-try_alloc_slice_copy.ensures ∙ sym c.of-packets.ensures.bytes in
    record {
      after = c.read_on-code.new.self;
      on = on;
      packets = records_are c.of-packets.result.format c.of-packets.result.bytes.now on.more c.of-packets.result.records
          (subst (λ (f : Format). AreSpelledBy f c.of-packets.result.bytes.now on.more) format (subst (λ (b : List ℕ). AreSpelledBy c.args.walk.format b on.more) bytes on.spelled));
      so_far = c.so_far-2.ensures.is;
      within = c.so_far-2.ensures.within;
      left = c.left.ensures;
      fault = c.read_on-code.ensures.fault;
    }
