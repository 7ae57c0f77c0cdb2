use Rattle.std.proofs.Common.{ℕ, List, [], ◌∷◌, arith, subst, sym, ◌∙◌}
use Rattle.std.proofs.Math.Logic.{∥∥₁_elim}
use Rattle.std.proofs.Props.{props}
use Rattle.fa_bodies.specs.Fields.{IsSpelled}
use Rattle.fa_bodies.specs.Fields.Field.{Name}
use Rattle.fa_bodies.proofs.FieldLaws.{parts_of, then_fields, rest-one, length-fields}
use Rattle.fa_bodies.proofs.bodies.known_named.Goals as goal

pub at-block-requires : goal.at-block-requires
at-block-requires g c =
    ∥∥₁_elim c.requires (hlevel props) (λ x.
    let parts = parts_of (g.B.Block.fields x.0) (Name x.1 ∷ []) c.args.bytes.now [] x.2 in
    omega (arith, length-fields (g.B.Block.fields x.0) c.args.bytes.now parts.0 parts.1, g.met.B.Block.sized x.0))

pub known_name-requires : goal.known_name-requires
known_name-requires g c =
    ∥∥₁_elim c.requires (hlevel props) (λ x.
    let parts = parts_of (g.B.Block.fields x.0) (Name x.1 ∷ []) c.args.bytes.now [] x.2 in
    let sized = g.met.B.Block.sized x.0 ∙ sym (g.met.B.Block.sized c.at-block.result.0) in
    let same = rest-one (g.B.Block.fields x.0) (g.B.Block.fields c.at-block.result.0) c.args.bytes.now parts.0 c.at-block.result.1.now sized parts.1 c.at-block.ensures in
    let name = subst (λ (y : List ℕ). IsSpelled y (Name x.1 ∷ [])) same parts.2 in
    omega (arith, length-fields (Name x.1 ∷ []) c.at-block.result.1.now [] name))

pub returns : goal.returns
returns g c block name p =
    let parts = parts_of (g.B.Block.fields block) (Name name ∷ []) c.args.bytes.now [] p in
    let sized = g.met.B.Block.sized block ∙ sym (g.met.B.Block.sized c.at-block.result.0) in
    let same = rest-one (g.B.Block.fields block) (g.B.Block.fields c.at-block.result.0) c.args.bytes.now parts.0 c.at-block.result.1.now sized parts.1 c.at-block.ensures in
    let named = subst (λ (y : List ℕ). IsSpelled y (Name name ∷ [])) same parts.2 in
    let read = subst (λ (n : List ℕ). IsSpelled c.at-block.result.1.now (Name n ∷ [])) (sym (c.known_name.ensures name named)) named in
    then_fields (g.B.Block.fields c.at-block.result.0) (Name c.known_name.result.now ∷ []) c.args.bytes.now c.at-block.result.1.now [] c.at-block.ensures read
