use Rattle.std.proofs.Common.{List, ℕ, [], ◌∷◌, subst, sym, ◌∙◌}
use Rattle.fa_bodies.specs.Fields.{IsSpelled}
use Rattle.fa_bodies.specs.Fields.Field.{Name}
use Rattle.fa_bodies.proofs.OptionLaws.{if_none}
use Rattle.fa_bodies.proofs.FieldLaws.{parts_of, behind, then_fields, rest-one}
use Rattle.fa_bodies.proofs.bodies.two_named.Goals as goal

pub returns-in_err-block-clause-none : goal.returns-in_err-block-clause-none
returns-in_err-block-clause-none g c =
    if_none c.from_residual.result _ (λ block first second p.
    let parts = parts_of (g.B.Block.fields block) (Name first ∷ Name second ∷ []) c.args.bytes.now [] p in
    c.in_err-block.ensures.none block parts.0 parts.1)

pub returns-in_err-first-clause-none : goal.returns-in_err-first-clause-none
returns-in_err-first-clause-none g c =
    if_none c.from_residual-in_err-first.result _ (λ block first second p.
    let parts = parts_of (g.B.Block.fields block) (Name first ∷ Name second ∷ []) c.args.bytes.now [] p in
    let sized = g.met.B.Block.sized block ∙ sym (g.met.B.Block.sized c.in_ok-block.block) in
    let same = rest-one (g.B.Block.fields block) (g.B.Block.fields c.in_ok-block.block) c.args.bytes.now parts.0 c.in_ok-block.rest.now sized parts.1 c.in_ok-block.ensures.found in
    let one = parts_of (Name first ∷ []) (Name second ∷ []) c.in_ok-block.rest.now [] (subst (λ (x : List ℕ). IsSpelled x (Name first ∷ Name second ∷ [])) same parts.2) in
    c.in_err-first.ensures.none first one.0 one.1)

pub returns-in_err-second-clause-none : goal.returns-in_err-second-clause-none
returns-in_err-second-clause-none g c =
    if_none c.from_residual-in_err-second.result _ (λ block first second p.
    let parts = parts_of (g.B.Block.fields block) (Name first ∷ Name second ∷ []) c.args.bytes.now [] p in
    let sized = g.met.B.Block.sized block ∙ sym (g.met.B.Block.sized c.in_ok-block.block) in
    let same = rest-one (g.B.Block.fields block) (g.B.Block.fields c.in_ok-block.block) c.args.bytes.now parts.0 c.in_ok-block.rest.now sized parts.1 c.in_ok-block.ensures.found in
    let two = behind (Name first ∷ []) (Name c.in_ok-first.first.now ∷ []) (Name second ∷ []) c.in_ok-block.rest.now c.in_ok-first.rest.now [] tt c.in_ok-first.ensures.found
    (subst (λ (x : List ℕ). IsSpelled x (Name first ∷ Name second ∷ [])) same parts.2) in
    c.in_err-second.ensures.none second two.1)

pub returns-clause-found : goal.returns-clause-found
returns-clause-found g c =
    let first = c.in_ok-first.first.now in
    let second = c.in_ok-second.second.now in
    then_fields (g.B.Block.fields c.in_ok-block.block) (Name first ∷ Name second ∷ []) c.args.bytes.now c.in_ok-block.rest.now [] c.in_ok-block.ensures.found
    (then_fields (Name first ∷ []) (Name second ∷ []) c.in_ok-block.rest.now c.in_ok-first.rest.now [] c.in_ok-first.ensures.found c.in_ok-second.ensures.found)
