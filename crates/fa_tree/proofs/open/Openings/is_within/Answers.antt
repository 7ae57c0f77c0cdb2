use Rattle.std.proofs.Common.{◌≡◌, ℕ, sym, subst, rules, tests}
use Rattle.std.specs.List.{All}
use Rattle.std.specs.Map.{keys_of}
use Rattle.std.specs.FinMap as map
use Rattle.std.proofs.lemmas.Iterator.{cases_from_all}
use Rattle.std.proofs.lemmas.Iterator.Consumers.{YieldsList-from_rest}
use Rattle.fa_tree.specs.parts.NameViews.{handles_shown}
use Rattle.fa_tree.specs.parts.SameParts.{IsMapWithin}
use Rattle.fa_store.proofs.CallerLemmas.{walked}
use Rattle.fa_tree.proofs.SameLemmas.{handles_within}
use Rattle.fa_tree.proofs.open.Openings.is_within.Goals as goal

pub returns : goal.returns
returns c = λ is.
    let slots = c.args.slots.now.table.entries in
    let places = c.self.inside.places.entries in
    let others = handles_shown c.args.other_slots.now.table.entries 0 map.empty c.args.other.now in
    let same : ℕ → Type 0 = λ asked. map.get (handles_shown slots 0 map.empty c.args.self.now) asked ≡ map.get others asked in
    subst (λ openings. IsMapWithin (handles_shown slots 0 map.empty openings) others) c.self.view_is
    (handles_within slots c.self.inside.list.items places c.self.invariant others
    (subst (λ openings. All (λ asked. map.get (handles_shown slots 0 map.empty openings) asked ≡ map.get others asked) (keys_of places)) (sym c.self.view_is)
    (walked c.all.result same (keys_of places) _ is
    (cases_from_all _ _ c.all.result same (λ asked. Unit {0}) c.all.ensures.ran (YieldsList-from_rest (keys_of places) c.keys.ensures.rest)
    (λ x q k. search (rules, tests)) (λ x q k. tt)))))
