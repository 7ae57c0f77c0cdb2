use Rattle.std.proofs.Common.{rules, sym, ap, ◌∙◌}
use Rattle.fa_bodies.specs.Listing.{u64_in}
use Rattle.fa_bodies.proofs.ViewLaws.{u64_said, behind_skipped, file_size_in}
use Rattle.fa_bodies.proofs.views.AttributesBytes.size.Goals as goal

pub returns : goal.returns
returns c =
    let bytes = c.args.self.now.bytes.now in
    let read = c.u64_at-size in
    let said = u64_said read.result.0 c.skip.result.now read.result.1.now (search rules) read.ensures.value in
    said ∙ ap u64_in (sym (behind_skipped 8 bytes c.skip.result.now c.skip.ensures.value)) ∙ sym (file_size_in bytes)
