use Rattle.std.proofs.Common.{sym, ap, ◌∙◌}
use Rattle.fa_bodies.specs.Listing.{attributes_in}
use Rattle.fa_bodies.proofs.ViewLaws.{behind_skipped, entry_attributes_in}
use Rattle.fa_bodies.proofs.views.EntryBytes.attributes.Goals as goal

pub returns : goal.returns
returns c =
    let bytes = c.args.self.now.bytes.now in
    ap attributes_in (sym (behind_skipped 40 bytes c.skip.result.now c.skip.ensures.value)) ∙ sym (entry_attributes_in bytes)
