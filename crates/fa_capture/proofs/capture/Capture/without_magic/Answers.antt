use Rattle.fa_capture.specs.declared.format.Format.TheVariants.{Plain}
use Rattle.std.proofs.Common.{[]}
use Rattle.fa_capture.proofs.PieceLemmas.{nothing_yet}
use Rattle.fa_capture.proofs.StopLemmas.{none_held, empty_records, empty_framed, empty_reads}
use Rattle.fa_capture.proofs.capture.Capture.without_magic.Goals as goal

pub of-requires : goal.of-requires
of-requires c = none_held Plain

pub invariant_of-result : goal.invariant_of-result
invariant_of-result c =
    let both = empty_framed c.of.result.records.0 (empty_records c.of.result.format c.of.result.bytes.now c.of.ensures.bytes c.of.result.records) in
    record { framed = both.0; counted = both.1; of_bytes = ∣ ([], empty_reads c.of.result.records.0 [] (empty_records c.of.result.format c.of.result.bytes.now c.of.ensures.bytes c.of.result.records) nothing_yet.0) ∣₁ }

pub returns : goal.returns
returns c bytes without = empty_reads c.of.result.records.0 bytes (empty_records c.of.result.format c.of.result.bytes.now c.of.ensures.bytes c.of.result.records) without
