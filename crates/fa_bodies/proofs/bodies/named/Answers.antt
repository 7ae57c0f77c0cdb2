use Rattle.std.proofs.Common.{List, ℕ, [], ◌∷◌, subst, sym, ◌∙◌}
use Rattle.fa_bodies.specs.Fields.{IsSpelled}
use Rattle.fa_bodies.specs.Fields.Field.{Name}
use Rattle.fa_bodies.proofs.OptionLaws.{if_none}
use Rattle.fa_bodies.proofs.FieldLaws.{parts_of, then_fields, rest-one}
use Rattle.fa_bodies.proofs.bodies.named.Goals as goal

pub returns-in_err-block-clause-none : goal.returns-in_err-block-clause-none
returns-in_err-block-clause-none g c =
    if_none c.from_residual.result _ (λ block name p.
    let parts = parts_of (g.B.Block.fields block) (Name name ∷ []) c.args.bytes.now [] p in
    c.in_err-block.ensures.none block parts.0 parts.1)

pub returns-in_err-name-clause-none : goal.returns-in_err-name-clause-none
returns-in_err-name-clause-none g c =
    if_none c.from_residual-in_err-name.result _ (λ block name p.
    let parts = parts_of (g.B.Block.fields block) (Name name ∷ []) c.args.bytes.now [] p in
    let sized = g.met.B.Block.sized block ∙ sym (g.met.B.Block.sized c.in_ok-block.block) in
    let same = rest-one (g.B.Block.fields block) (g.B.Block.fields c.in_ok-block.block) c.args.bytes.now parts.0 c.in_ok-block.rest.now sized parts.1 c.in_ok-block.ensures.found in
    c.in_err-name.ensures.none name (subst (λ (x : List ℕ). IsSpelled x (Name name ∷ [])) same parts.2))

pub returns-clause-found : goal.returns-clause-found
returns-clause-found g c =
    then_fields (g.B.Block.fields c.in_ok-block.block) (Name c.in_ok-name.name.now ∷ []) c.args.bytes.now c.in_ok-block.rest.now [] c.in_ok-block.ensures.found c.in_ok-name.ensures.found
