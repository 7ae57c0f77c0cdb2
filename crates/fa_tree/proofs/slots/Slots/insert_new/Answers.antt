use Rattle.std.proofs.Common.{◌≡◌, [], ◌∷◌, ◌++◌, length, map, None, Some, Result, Ok, Err, cond, sym, ap, subst, ◌∙◌, inr}
use Rattle.std.specs.Prelude.{IsOk, OnOk}
use Rattle.std.specs.Map.{keys_of, lookup}
use Rattle.std.specs.Ordering.{eq_by_cmp}
use Rattle.std.proofs.lemmas.List.{map-append, length-map}
use Rattle.std.proofs.lemmas.Map.Entries.{length-keys_of}
use Rattle.indexmap.proofs.CallerLemmas.{insert_entry-new}
use Rattle.fa_capture.proofs.CallerLemmas.{found_alike}
use Rattle.fa_ledger.proofs.CallerLemmas.{wrote_ok}
use Rattle.fa_tree.specs.State as state
use Rattle.fa_tree.specs.State.{place_cmp, file_eq}
use Rattle.fa_tree.specs.declared.slots.Place.{Place}
use Rattle.fa_tree.specs.declared.slots.Slot.{Slot}
use Rattle.fa_tree.specs.contracts.slots.PlacePartialEq.TheImpl as derived
use Rattle.fa_tree.specs.declared.slots.Slot.TheVariants.{There}
use Rattle.fa_tree.specs.parts.BirthParts.{places_of}
use Rattle.fa_tree.specs.parts.SlotParts.{place_of, is_at, slot_at, IsChangedAt}
use Rattle.fa_tree.specs.parts.MemberParts.{members_of, AreMembers}
use Rattle.fa_tree.proofs.SlotLemmas.{after_write, keys_same, all_there_put}
use Rattle.fa_tree.proofs.MemberLemmas.{members_added}
use Rattle.fa_tree.proofs.slots.Slots.insert_new.Goals as goal

ok_holds : {A E : Type 0} (r : Result A E) (P : Type 0) → IsOk r → OnOk r P → P
ok_holds (Ok v) P is holds = holds
ok_holds (Err e) P is holds = absurd cc

pub returns-clause-put : goal.returns-clause-put
returns-clause-put c = λ q.
    let place : state.Place = (c.args.directory, c.args.name.now) in
    let key : Place = record { directory = c.args.directory; name = c.in_ok-name.name } in
    let copied = c.in_ok-name.ensures.items_if_clones_equal (λ x y e. e) in
    let wrote = wrote_ok c.insert.result _ c.unwrap.result c.unwrap.ensures c.insert.ensures.updates in
    after_write _ keys_same place _ (λ k. keys_same key k ∙ ap (λ items. is_at (c.args.directory, items) k) copied)
    c.reserve.new.self.entries c.insert.new.self.entries (Some (There c.args.file c.args.born)) wrote.1 wrote.3 q
    ∙ ap (λ slots. cond (eq_by_cmp place_cmp q place) (Some (There c.args.file c.args.born)) (slot_at slots q)) c.in_ok-reserve.ensures.entries

pub invariant_of-self-2 : goal.invariant_of-self-2
invariant_of-self-2 c =
    let place : state.Place = (c.args.directory, c.args.name.now) in
    let key : Place = record { directory = c.args.directory; name = c.in_ok-name.name } in
    let old = c.args.self.now.table.entries in
    let members = c.args.self.now.members.table.entries in
    let copied = c.in_ok-name.ensures.items_if_clones_equal (λ x y e. e) in
    let same = c.in_ok-reserve.ensures.entries in
    let absent : lookup (derived.eq-value.it key) c.reserve.new.self.entries ≡ None =
    found_alike (derived.eq-value.it key) (is_at place) c.reserve.new.self.entries (λ k. keys_same key k ∙ ap (λ items. is_at (c.args.directory, items) k) copied)
    ∙ ap (λ slots. slot_at slots place) same
    ∙ c.requires in
    let last =
    ok_holds c.insert.result _ (c.insert.ensures.succeeds c.in_ok-reserve.ensures.ok) c.insert.ensures.entries
    ∙ insert_entry-new derived.eq-value.it c.reserve.new.self key (There c.args.file c.args.born) absent in
    let wrote = ok_holds c.insert.result _ (c.insert.ensures.succeeds c.in_ok-reserve.ensures.ok) c.insert.ensures.updates in
    let slot : Slot = There c.args.file c.args.born in
    let put : IsChangedAt place (λ _. Some slot) old c.insert.new.self.entries = (λ q.
    after_write _ keys_same place _ (λ k. keys_same key k ∙ ap (λ items. is_at (c.args.directory, items) k) copied)
    c.reserve.new.self.entries c.insert.new.self.entries (Some slot) wrote.1 wrote.3 q
    ∙ ap (λ slots. cond (eq_by_cmp place_cmp q place) (Some slot) (slot_at slots q)) same) in
    let count : c.len-index.result ≡ length (keys_of old) = c.len-index.ensures.len ∙ sym (length-keys_of old) in
    record {
      complete =
          subst (λ keys. AreMembers keys c.add.new.self.table.entries)
          (sym (ap keys_of last ∙ map-append (λ e. e.0) c.reserve.new.self.entries ((key, (There c.args.file c.args.born)) ∷ []) ∙ ap (λ slots. keys_of slots ++ key ∷ []) same))
          (members_added (keys_of old) members c.add.new.self.table.entries c.args.self.now.complete key
          (λ of. c.in_ok-add.ensures.added of
          ∙ ap (λ index. cond (file_eq of c.args.directory) (members_of members of ++ index ∷ []) (members_of members of)) count));
      there = λ all. all_there_put old c.insert.new.self.entries place c.args.file c.args.born put (c.args.self.now.there all);
    }

pub returns-clause-places : goal.returns-clause-places
returns-clause-places c =
    let key : Place = record { directory = c.args.directory; name = c.in_ok-name.name } in
    let old = c.args.self.now.table.entries in
    let members = c.args.self.now.members.table.entries in
    let copied = c.in_ok-name.ensures.items_if_clones_equal (λ x y e. e) in
    let same = c.in_ok-reserve.ensures.entries in
    let absent : lookup (derived.eq-value.it key) c.reserve.new.self.entries ≡ None =
    found_alike (derived.eq-value.it key) (is_at (c.args.directory, c.args.name.now)) c.reserve.new.self.entries (λ k. keys_same key k ∙ ap (λ items. is_at (c.args.directory, items) k) copied)
    ∙ ap (λ slots. slot_at slots (c.args.directory, c.args.name.now)) same
    ∙ c.requires in
    let last =
    ok_holds c.insert.result _ (c.insert.ensures.succeeds c.in_ok-reserve.ensures.ok) c.insert.ensures.entries
    ∙ insert_entry-new derived.eq-value.it c.reserve.new.self key (There c.args.file c.args.born) absent in
    let key-at : place_of key ≡ (c.args.directory, c.args.name.now) = ap (λ items. (c.args.directory, items)) copied in
    let count : c.len-index.result ≡ length (places_of old) = c.len-index.ensures.len ∙ sym (length-map (keys_of old) place_of ∙ length-keys_of old) in
    inr (
      ap places_of last ∙ ap (map place_of) (map-append (λ e. e.0) c.reserve.new.self.entries ((key, (There c.args.file c.args.born)) ∷ [])) ∙ map-append place_of (keys_of c.reserve.new.self.entries) (key ∷ [])
          ∙ (λ i. places_of (same i) ++ key-at i ∷ []),
      λ of. c.in_ok-add.ensures.added of ∙ ap (λ index. cond (file_eq of c.args.directory) (members_of members of ++ index ∷ []) (members_of members of)) count,
    )
