use Rattle.std.proofs.Common.{ap, sym, ◌∙◌}
use Rattle.std.specs.Option.{option_and_then}
use Rattle.fa_tree.specs.parts.SlotParts.{file_in}
use Rattle.fa_tree.proofs.CopyLemmas.{slots_alike, places_copied, members_copied}
use Rattle.fa_tree.proofs.slots.Slots.copy.Goals as goal

pub invariant_of-result : goal.invariant_of-result
invariant_of-result c =
    let old = c.args.self.now in
    let new = c.in_ok-table.table.entries in
    let same = slots_alike old.table.entries new c.in_ok-table.ensures.cases in
    record {
      complete = members_copied old.table.entries new old.members.table.entries c.in_ok-members.members.table.entries c.in_ok-table.ensures.cases c.in_ok-members.ensures old.complete;
      there = λ all place none. same place ∙ old.there all place (ap (option_and_then file_in) (sym (same place)) ∙ none);
    }

pub returns-clause-slots : goal.returns-clause-slots
returns-clause-slots c = slots_alike c.args.self.now.table.entries c.in_ok-table.table.entries c.in_ok-table.ensures.cases

pub returns-clause-places : goal.returns-clause-places
returns-clause-places c = (places_copied c.args.self.now.table.entries c.in_ok-table.table.entries c.in_ok-table.ensures.cases, c.in_ok-members.ensures)
