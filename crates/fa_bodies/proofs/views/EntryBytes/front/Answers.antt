use Rattle.std.proofs.Common.{arith}
use Rattle.fa_bodies.specs.Structs.{entry_out}
use Rattle.fa_bodies.proofs.FieldLaws.{length-fields}
use Rattle.fa_bodies.proofs.ListingLaws.{entry_out_begins}
use Rattle.fa_bodies.proofs.views.EntryBytes.front.Goals as goal

pub returns-then-bytes-lt-LEN-clause-none : goal.returns-then-bytes-lt-LEN-clause-none
returns-then-bytes-lt-LEN-clause-none c entry rest p = absurd (omega (arith, length-fields (entry_out entry) c.args.bytes.now rest p, c.if-bytes-lt-LEN.true))

pub returns-clause-found : goal.returns-clause-found
returns-clause-found c = rw c.split_at.ensures.back (entry_out_begins c.args.bytes.now (λ i. omega (arith, c.type_inv.bytes i)) (omega (arith, c.if-bytes-lt-LEN.false)))
