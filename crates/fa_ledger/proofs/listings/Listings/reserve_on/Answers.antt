use Rattle.std.proofs.Common.{Some, refl, sym, ap, ◌∙◌}
use Rattle.std.specs.Prelude.{is_some, nat_eq}
use Rattle.std.specs.Map.{lookup}
use Rattle.fa_ledger.specs.declared.listings.Offsets.{Offsets}
use Rattle.fa_ledger.specs.parts.ListingParts.{place_of, listed_shown}
use Rattle.fa_ledger.proofs.TableLemmas.{at_key, after_write, ok_also, either_way}
use Rattle.fa_ledger.proofs.PlaceLemmas.{places_after, place_found, changed_at, same_either, shown_alike}
use Rattle.fa_ledger.proofs.listings.Listings.reserve_on.Goals as goal

pub returns-in-Some-clause-same : goal.returns-in-Some-clause-same
returns-in-Some-clause-same c = λ other offset.
    let table = c.args.self.now.by_key.entries in
    let key = c.args.key.now in
    let offsets : Offsets = record { places = c.reserve.new.self } in
    let new = c.get_mut.follows.lender offsets in
    let wrote = (c.get_mut.follows.holds offsets).3 (ap is_some (sym c.in-Some.ensures.value)) in
    let found = sym (at_key key table) ∙ sym c.in-Some.ensures.value in
    places_after key table new.entries (Some offsets) (after_write key table new.entries _ _ refl wrote.0) other offset
    ∙ changed_at key other (λ k. place_of table k offset) (λ place. place) _ (ap (lookup (nat_eq offset)) c.reserve.ensures.entries ∙ sym (place_found table key offset _ found))
    ∙ same_either _ _

pub returns-in-Some-clause-room : goal.returns-in-Some-clause-room
returns-in-Some-clause-room c =
    let key = c.args.key.now in
    let offsets : Offsets = record { places = c.reserve.new.self } in
    let wrote = (c.get_mut.follows.holds offsets).3 (ap is_some (sym c.in-Some.ensures.value)) in
    ok_also c.reserve.result _ _ (λ room. (offsets, sym (at_key key _) ∙ wrote.1, room)) c.reserve.ensures.ok

pub returns-in-Some-clause-unchanged : goal.returns-in-Some-clause-unchanged
returns-in-Some-clause-unchanged c =
    let offsets : Offsets = record { places = c.reserve.new.self } in
    let wrote = (c.get_mut.follows.holds offsets).0 in
    let same = ap listed_shown wrote ∙ shown_alike _ c.args.self.now.by_key.entries c.in-Some.offsets.now offsets (sym c.in-Some.ensures.value) c.reserve.ensures.entries in
    either_way c.reserve.result same

pub returns-in_ok-insert-in-None-clause-same : goal.returns-in_ok-insert-in-None-clause-same
returns-in_ok-insert-in-None-clause-same c = λ other offset.
    let table = c.args.self.now.by_key.entries in
    let key = c.args.key.now in
    let new = c.insert.new.self.entries in
    let wrote = rw c.get_mut.follows.holds-at-none at c.in_ok-insert-in-None.ensures.updates in
    let absent = sym (at_key key table) ∙ sym c.in-None.ensures.value in
    places_after key table new (Some c.in_ok-offsets-in-None.offsets) (after_write key table new _ _ refl wrote.0) other offset
    ∙ changed_at key other (λ k. place_of table k offset) (λ place. place) _ (ap (lookup (nat_eq offset)) c.in_ok-offsets-in-None.ensures.none ∙ sym (place_found table key offset _ absent))
    ∙ same_either _ _

pub returns-in_ok-insert-in-None-clause-room : goal.returns-in_ok-insert-in-None-clause-room
returns-in_ok-insert-in-None-clause-room c =
    let key = c.args.key.now in
    (c.in_ok-offsets-in-None.offsets, sym (at_key key c.insert.new.self.entries) ∙ c.in_ok-insert-in-None.ensures.updates.1, c.in_ok-offsets-in-None.ensures.room)
