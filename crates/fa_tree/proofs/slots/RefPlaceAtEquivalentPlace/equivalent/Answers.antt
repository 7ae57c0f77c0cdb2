use Rattle.std.proofs.Common.{sym, ap, ◌∙◌}
use Rattle.std.specs.Prelude.{nat_eq}
use Rattle.std.specs.Cmp.Lexicographic.{pointwise}
use Rattle.fa_tree.specs.parts.PlaceLaws.{place_in}
use Rattle.fa_tree.specs.parts.SlotParts.{place_of}
use Rattle.fa_tree.proofs.slots.RefPlaceAtEquivalentPlace.equivalent.Goals as goal

pub returns-then-eq : goal.returns-then-eq
returns-then-eq c =
    let place = c.args.self.now.now in
    place_in (place.directory, place.name.now) (place_of c.args.key.now) _ (sym c.eq.ensures ∙ c.if-eq.true)
    (c.eq-then-eq.ensures ∙ ap (pointwise nat_eq place.name.now) c.as_slice.ensures.value)
