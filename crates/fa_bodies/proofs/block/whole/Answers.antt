use Rattle.std.proofs.Common.{◌≡◌, ℕ, List, [], subst, arith}
use Rattle.std.proofs.lemmas.List.{nil_from_length}
use Rattle.fa_bodies.specs.Fields.{BeginsWith}
use Rattle.fa_bodies.proofs.FieldLaws.{length-fields}
use Rattle.fa_bodies.proofs.block.whole.Goals as goal

pub returns-then-bytes-LEN-clause-none : goal.returns-then-bytes-LEN-clause-none
returns-then-bytes-LEN-clause-none g c block p =
    absurd (omega (arith, length-fields (g.B.Block.fields block) c.args.bytes.now [] p, g.met.B.Block.sized block))

pub returns-clause-found : goal.returns-clause-found
returns-clause-found g c =
    let block = c.at-block.result.0 in
    let end = c.at-block.result.1.now in
    let long = length-fields (g.B.Block.fields block) c.args.bytes.now end c.at-block.ensures in
    let nothing : end ≡ [] = nil_from_length end (omega (arith, long, g.met.B.Block.sized block)) in
    subst (λ (r : List ℕ). BeginsWith c.args.bytes.now (g.B.Block.fields block) r) nothing c.at-block.ensures
