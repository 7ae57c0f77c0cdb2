use Rattle.fa_bodies.specs.Modes.{mode_bits, HasFileType}
use Rattle.std.specs.Prelude.{Some}
use Rattle.fa_tree.proofs.ListingLemmas.{typed_by}
use Rattle.fa_tree.proofs.stored.Stored.is_typed.Goals as goal

pub returns-in-Some : goal.returns-in-Some
returns-in-Some c = typed_by c.args.self.now.store.files c.args.file c.in-Some.kind (λ k. HasFileType (mode_bits c.args.mode) (Some k)) c.tells.result c.in-Some.ensures c.tells.ensures
