use Rattle.std.proofs.Common.{length, sym}
use Rattle.std.proofs.lemmas.Bool.{eqb-true}
use Rattle.std.proofs.lemmas.List.{nil_from_length}
use Rattle.fa_bodies.proofs.WholeLaws.{entries_in-nil}
use Rattle.fa_bodies.proofs.dirent.EntriesIterator.next.Goals as goal

pub returns-then-is_empty-clause-steps : goal.returns-then-is_empty-clause-steps
returns-then-is_empty-clause-steps c =
    let bytes = c.args.self.now.bytes.now in
    let none = entries_in-nil c.args.self.now.plus bytes (nil_from_length bytes (eqb-true (length bytes) 0 (sym c.if-is_empty.ensures))) in
    (none, none)
