use Rattle.std.proofs.Common.{Some, sym, ap, ◌∙◌, arith}
use Rattle.std.specs.Prelude.{slice_get}
use Rattle.std.proofs.lemmas.Option.{slice_get-get_or}
use Rattle.fa_tree.specs.parts.OpenParts.{last_opening}
use Rattle.fa_tree.proofs.OpenLemmas.{last_within, last_is}
use Rattle.fa_tree.proofs.open.Openings.find.Goals as goal

pub index-requires : goal.index-requires
index-requires c =
    omega (arith, last_within c.self.inside.list.items c.self.inside.places.entries c.self.invariant c.args.asked c.in_ok-at.field-0.now (sym c.in_ok-at.ensures.value))

pub returns-clause-last : goal.returns-clause-last
returns-clause-last c =
    let openings = c.self.inside.list.items in
    let at = c.in_ok-at.field-0.now in
    let some = last_is openings c.self.inside.places.entries c.self.invariant c.args.asked at (sym c.in_ok-at.ensures.value) c.index.result.now in
    sym (ap (last_opening c.args.asked 0) (sym c.self.view_is) ∙ some ∙ ap (λ o. Some (at, o.directory)) (sym c.index.ensures))

pub returns-clause-there : goal.returns-clause-there
returns-clause-there c =
    let openings = c.self.inside.list.items in
    let at = c.in_ok-at.field-0.now in
    let within = last_within openings c.self.inside.places.entries c.self.invariant c.args.asked at (sym c.in_ok-at.ensures.value) in
    ap (λ xs. slice_get xs at) (sym c.self.view_is) ∙ slice_get-get_or openings at c.index.result.now within ∙ ap (λ o. Some o) (sym c.index.ensures)
