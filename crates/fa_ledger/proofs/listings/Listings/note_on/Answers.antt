use Rattle.std.proofs.Common.{◌≡◌, ◌≤◌, Bool, Some, refl, sym, ap, subst, ◌∙◌, length}
use Rattle.std.specs.Prelude.{is_some, is_none, nat_eq, IsTrue}
use Rattle.std.specs.Map.{lookup}
use Rattle.fa_bodies.specs.Dirents.{PlainDirent}
use Rattle.indexmap.specs.IndexMap.{spare}
use Rattle.fa_bodies.specs.Listing.{entries_left}
use Rattle.fa_ledger.specs.Listings.{count_to}
use Rattle.fa_ledger.specs.parts.ListingParts.{place_of, noted, some_new, some_unreached}
use Rattle.fa_ledger.proofs.TableLemmas.{at_key, after_write}
use Rattle.fa_ledger.proofs.PlaceLemmas.{places_after, place_found, changed_at, the_one, any_alike, nothing_noted}
use Rattle.fa_ledger.proofs.listings.Listings.note_on.Goals as goal

pub note-requires-clause-fresh : goal.note-requires-clause-fresh
note-requires-clause-fresh c = λ offset place is.
    let table = c.args.self.now.by_key.entries in
    let key = c.args.key in
    c.requires.fresh offset place (place_found table key offset _ (sym (at_key key table) ∙ sym c.in-Some.ensures.value) ∙ is)

pub note-requires-clause-room : goal.note-requires-clause-room
note-requires-clause-room c = λ new.
    let table = c.args.self.now.by_key.entries in
    let key = c.args.key in
    let offsets = c.in-Some.offsets.now in
    let found = sym (at_key key table) ∙ sym c.in-Some.ensures.value in
    let test : PlainDirent → Bool = λ d. is_none (lookup (nat_eq d.off) offsets.places.entries) in
    let other : PlainDirent → Bool = λ d. is_none (place_of table key d.off) in
    let alike : some_unreached table key (entries_left c.args.listing) ≡ some_new offsets.places.entries (entries_left c.args.listing) =
    any_alike other test (entries_left c.args.listing) (λ d. ap is_none (place_found table key d.off _ found)) in
    let room = c.requires.room (subst IsTrue (sym alike) new) in
    let same : room.0 ≡ c.in-Some.offsets.now = the_one _ _ _ room.1 (sym (at_key key table) ∙ sym c.in-Some.ensures.value) in
    subst (λ offsets. length (entries_left c.args.listing) ≤ spare offsets.places) same room.2

pub returns-in-Some : goal.returns-in-Some
returns-in-Some c = λ other offset.
    let table = c.args.self.now.by_key.entries in
    let key = c.args.key in
    let new = c.get_mut.follows.lender c.note.new.self in
    let wrote = (c.get_mut.follows.holds c.note.new.self).3 (ap is_some (sym c.in-Some.ensures.value)) in
    let found = sym (at_key key table) ∙ sym c.in-Some.ensures.value in
    places_after key table new.entries (Some c.note.new.self) (after_write key table new.entries _ _ refl wrote.0) other offset
    ∙ changed_at key other (λ k. place_of table k offset) (noted c.args.asked c.args.adrift (count_to offset (entries_left c.args.listing))) _ (c.note.ensures offset ∙ ap (noted c.args.asked c.args.adrift (count_to offset (entries_left c.args.listing))) (sym (place_found table key offset _ found)))

pub returns-in-None : goal.returns-in-None
returns-in-None c =
    let table = c.args.self.now.by_key.entries in
    let key = c.args.key in
    let absent = sym (at_key key table) ∙ sym c.in-None.ensures.value in
    rw c.get_mut.follows.holds-at-none (nothing_noted table key c.args.asked c.args.adrift (entries_left c.args.listing) absent (λ new. let room = c.requires.room new in (room.0, room.1)))
