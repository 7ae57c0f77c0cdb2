use Rattle.std.proofs.Common.{length, ap, sym, subst, ◌∙◌}
use Rattle.fa_tree.specs.parts.SlotParts.{slot_at}
use Rattle.fa_tree.specs.parts.NameViews.{IsStampWithin, shown}
use Rattle.fa_tree.specs.parts.BirthParts.{AreOldPlaces}
use Rattle.fa_tree.proofs.BirthLemmas.{opened_alike}
use Rattle.fa_tree.proofs.CopyLemmas.{shown_alike}
use Rattle.fa_tree.proofs.names.Names.copy.Goals as goal

pub invariant_of-result : goal.invariant_of-result
invariant_of-result c =
    let old = c.self.inside.slots.table.entries in
    let new = c.in_ok-slots.slots.table.entries in (
      (λ place.
          subst (λ openings. IsStampWithin (length openings) (slot_at new place)) (sym c.in_ok-openings.ensures)
          (subst (IsStampWithin (length c.self.inside.openings)) (sym (c.in_ok-slots.ensures.slots place)) (c.self.invariant.0 place))),
      subst (AreOldPlaces new c.in_ok-slots.slots.members.table.entries) (sym c.in_ok-openings.ensures)
          (opened_alike old new c.self.inside.slots.members.table.entries c.in_ok-slots.slots.members.table.entries c.self.inside.openings c.in_ok-slots.ensures.places c.in_ok-slots.ensures.slots c.self.invariant.1),
    )

pub returns : goal.returns
returns c =
    let old = c.self.inside.slots.table.entries in
    let new = c.in_ok-slots.slots.table.entries in
    shown_alike new old c.in_ok-slots.ensures.slots c.in_ok-openings.openings ∙ ap (shown old) c.in_ok-openings.ensures ∙ c.self.view_is
