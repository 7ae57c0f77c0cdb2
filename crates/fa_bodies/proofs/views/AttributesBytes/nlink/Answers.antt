use Rattle.std.proofs.Common.{rules, sym, ap, ◌∙◌}
use Rattle.fa_bodies.specs.Listing.{u32_in}
use Rattle.fa_bodies.proofs.ViewLaws.{u32_said, behind_skipped, nlink_in}
use Rattle.fa_bodies.proofs.views.AttributesBytes.nlink.Goals as goal

pub returns : goal.returns
returns c =
    let bytes = c.args.self.now.bytes.now in
    let read = c.u32_at-nlink in
    let said = u32_said read.result.0 c.skip.result.now read.result.1.now (search rules) read.ensures.value in
    said ∙ ap u32_in (sym (behind_skipped 64 bytes c.skip.result.now c.skip.ensures.value)) ∙ sym (nlink_in bytes)
