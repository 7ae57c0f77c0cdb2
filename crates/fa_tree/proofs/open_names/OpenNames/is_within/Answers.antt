use Rattle.std.proofs.Common.{◌≡◌, ℕ, List, true, rules, tests, ◌∙◌}
use Rattle.std.specs.FinMap.{get}
use Rattle.std.specs.FinSet.{contains}
use Rattle.std.proofs.lemmas.Iterator.{cases_from_all, YieldsList-from_slice}
use Rattle.fa_tree.specs.declared.slots.Slot.{Slot}
use Rattle.fa_tree.specs.parts.MemberParts.{members_of}
use Rattle.fa_tree.specs.parts.NameViews.{was_since, has_stayed}
use Rattle.fa_tree.specs.parts.OpenParts.{open_of}
use Rattle.fa_tree.specs.parts.SameParts.{IsSlotWithin}
use Rattle.fa_store.proofs.CallerLemmas.{walked}
use Rattle.fa_tree.proofs.SameLemmas.{known_in}
use Rattle.fa_tree.proofs.StayedLemmas.{walked_holds}
use Rattle.fa_tree.proofs.open_names.OpenNames.is_within.Goals as goal

pub returns : goal.returns
returns c = λ is.
    let o = c.args.self.now in
    let k = open_of c.args.other.now in
    let slots = o.slots.now.table.entries in
    let table = o.slots.now.members.table.entries in
    let indexes = members_of table o.directory in
    let known : List ℕ → Slot → Type 0 = λ name slot. was_since o.at slot ≡ true → (contains k.since name ≡ true) × (get k.stayed name ≡ has_stayed o.at slot) in
    let there : ℕ → Type 0 = λ index. IsSlotWithin o.directory o.at slots index k in
    known_in slots o.directory o.at k
    (walked_holds o.directory known slots table o.slots.now.complete
    (λ i index less.
    (walked c.all.result there indexes _ is
    (cases_from_all _ _ c.all.result there (λ index. Unit {0}) c.all.ensures.ran
    (YieldsList-from_slice indexes (c.iter.ensures.rest ∙ c.of-indexes.ensures))
    (λ x q k. search (rules, tests)) (λ x q k. tt)) i index less).known))
