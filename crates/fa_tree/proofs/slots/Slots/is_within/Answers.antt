use Rattle.std.proofs.Common.{◌≡◌, Some, rules, tests}
use Rattle.std.specs.FinMap as map
use Rattle.std.proofs.lemmas.Iterator.{cases_from_all}
use Rattle.std.proofs.lemmas.Iterator.Consumers.{YieldsList-from_rest}
use Rattle.fa_tree.specs.declared.id.FileId.{FileId}
use Rattle.fa_tree.specs.declared.slots.Place.{Place}
use Rattle.fa_tree.specs.declared.slots.Slot.{Slot}
use Rattle.fa_tree.specs.parts.SlotParts.{place_of, file_in, names_shown}
use Rattle.fa_store.proofs.CallerLemmas.{walked}
use Rattle.fa_tree.proofs.SameLemmas.{names_within}
use Rattle.fa_tree.proofs.slots.Slots.is_within.Goals as goal

pub returns : goal.returns
returns c = λ is.
    let slots = c.args.self.now.table.entries in
    let others = names_shown c.args.other.now.table.entries in
    let there : Place × Slot → Type 0 = λ e. (file : FileId) → file_in e.1 ≡ Some file → map.get others (place_of e.0) ≡ Some file in
    names_within slots others
    (walked c.all.result there slots _ is
    (cases_from_all _ _ c.all.result there (λ e. Unit {0}) c.all.ensures.ran (YieldsList-from_rest slots c.iter.ensures.rest)
    (λ x q k. search (rules, tests)) (λ x q k. tt)))
