use Rattle.std.proofs.Common.{◌≡◌, rules, sym, ap, ◌∙◌}
use Rattle.fa_bodies.specs.Listing.{u32_in}
use Rattle.fa_bodies.specs.Views.{setattr_shown}
use Rattle.fa_bodies.proofs.ViewLaws.{u32_said, behind_skipped, mode_in, mode-one}
use Rattle.fa_bodies.proofs.views.SetattrBytes.mode.Goals as goal

pub returns : goal.returns
returns c =
    let bytes = c.args.self.now.bytes.now in
    let read = c.u32_at-mode in
    let said = u32_said read.result.0 c.skip.result.now read.result.1.now (search rules) read.ensures.value in
    let there = ap u32_in (sym (behind_skipped 68 bytes c.skip.result.now c.skip.ensures.value)) ∙ sym (mode_in bytes) in
    let same : c.from_bits.result.0 ≡ (setattr_shown c.args.self.now).mode.0 = c.from_bits.ensures ∙ said ∙ there in
    mode-one c.from_bits.result (setattr_shown c.args.self.now).mode same
