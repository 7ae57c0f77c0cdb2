use Rattle.std.proofs.Common.{◌≡◌, List, ℕ, false, true, subst, sym, ◌∙◌}
use Rattle.fa_bodies.specs.Names.{HasNoZero, IsName}
use Rattle.fa_bodies.proofs.OptionLaws.{if_none}
use Rattle.fa_bodies.proofs.FieldLaws.{ended-one, name-no-zero, zero-inside}
use Rattle.fa_bodies.proofs.names.name_at.Goals as goal

pub returns-in_err-name-clause-none : goal.returns-in_err-name-clause-none
returns-in_err-name-clause-none c =
    if_none c.from_residual.result _ (λ name rest p.
    zero-inside name p.1 (subst (λ (x : List ℕ). HasNoZero x) p.2 c.in_err-name.ensures.none))

pub returns-else-is_name-clause-none : goal.returns-else-is_name-clause-none
returns-else-is_name-clause-none c name rest p =
    let found = c.in_ok-name.ensures.found in
    let one = ended-one name c.in_ok-name.name.now p.1 c.in_ok-name.rest.now (name-no-zero name p.0.filename.each_byte) found.0 (sym p.2 ∙ found.1) in
    let yes : false ≡ true = c.if-is_name.ensures.1 (subst (λ (x : List ℕ). IsName x) one.0 p.0) in
    absurd cc
