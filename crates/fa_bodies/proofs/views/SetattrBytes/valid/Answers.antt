use Rattle.std.proofs.Common.{◌≡◌, rules, sym, ◌∙◌}
use Rattle.fa_bodies.specs.Views.{setattr_shown}
use Rattle.fa_bodies.proofs.ViewLaws.{u32_said, valid_in, fattr-one}
use Rattle.fa_bodies.proofs.views.SetattrBytes.valid.Goals as goal

pub returns : goal.returns
returns c =
    let bytes = c.args.self.now.bytes.now in
    let read = c.u32_at-valid in
    let same : c.from_bits_retain.result.0 ≡ (setattr_shown c.args.self.now).valid.0 = c.from_bits_retain.ensures tt ∙ u32_said read.result.0 bytes read.result.1.now (search rules) read.ensures.value ∙ sym (valid_in bytes) in
    fattr-one c.from_bits_retain.result (setattr_shown c.args.self.now).valid same
