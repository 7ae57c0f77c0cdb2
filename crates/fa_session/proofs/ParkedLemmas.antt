-- Sessions that are put aside: requests with their messages in memory of their own, and the tables of which they are copies.
use Rattle.std.proofs.Common.{◌≡◌, ℕ, Bool, suc, List, [], ◌∷◌, ◌++◌, Option, None, Some, cond, refl, sym, ap, ◌∙◌}
use Rattle.std.specs.Prelude.{map, nat_eq, slice_get}
use Rattle.std.specs.Ordering.{nat_cmp}
use Rattle.std.specs.Cmp.{nat_cmp_total, nat_eq_equiv, unsigned_tied}
use Rattle.std.specs.List.{IsDistinct}
use Rattle.std.specs.Map.{lookup, keys_of, values_of}
use Rattle.std.specs.FinMap.{find, entries, from_entries, get-entries, get-from_entries, same_map, nat_cmp-IsAntisymmetric}
use Rattle.std.proofs.lemmas.List.{map-append, append-nil, append_assoc}
use Rattle.std.proofs.lemmas.Map.Entries.{lookup_from_place}
use Rattle.fa_session.specs.declared.waiting.Waiting.{Waiting}
use Rattle.fa_session.specs.declared.waiting.OwnedWaiting.{OwnedWaiting}
use Rattle.fa_session.specs.Plain.{PlainSession, PlainWaiting}
use Rattle.fa_session.specs.Shows.{Shows}
use Rattle.fa_session.specs.declared.outstanding.Outstanding.TheInside.{Inside as Outstanding}
use Rattle.fa_session.specs.parts.View.{outstanding_shown, newest_entry, waiting_shown, entries_shown, by_unique, owned_shown, owned_by_unique}
use Rattle.fa_session.proofs.TableLemmas.{find_by_unique, shown_insert, nothing_shown}

-- a session with no message and no request shows no messages
pub none_parked : (s : PlainSession) (ws : List OwnedWaiting) → s.messages ≡ 0 → s.negotiated ≡ None → s.waiting ≡ owned_by_unique ws → ws ≡ [] → Shows [] s
none_parked s ws counted settled shown empty = nothing_shown s [] counted settled (shown ∙ ap owned_by_unique empty) refl

-- ---- copies of a table

-- a request of the table, as an entry under its own unique
abbrev pub own_entry : Waiting → ℕ × PlainWaiting
own_entry w = (w.unique, waiting_shown w)

-- where each stands under its own unique, the entries show these
pub own_entries : (es : List (ℕ × Waiting)) → ((i unique : ℕ) (w : Waiting) → slice_get es i ≡ Some (unique, w) → w.unique ≡ unique) → map own_entry (values_of es) ≡ entries_shown es
own_entries [] own = refl
own_entries (e ∷ es) own =
    let head : own_entry e.1 ≡ (e.0, waiting_shown e.1) = ap (λ (u : ℕ). (u, waiting_shown e.1)) (own 0 e.0 e.1 refl) in
    let tail : map own_entry (values_of es) ≡ entries_shown es = own_entries es (λ i. own (suc i)) in
    ap (λ (x : ℕ × PlainWaiting). x ∷ map own_entry (values_of es)) head ∙ ap (λ (xs : List (ℕ × PlainWaiting)). (e.0, waiting_shown e.1) ∷ xs) tail

-- and so it is in a table in which look-ups find each under its own
pub own_by_lookup : (es : List (ℕ × Waiting)) → IsDistinct nat_eq (keys_of es)
    → ((unique : ℕ) (w : Waiting) → lookup (nat_eq unique) es ≡ Some w → w.unique ≡ unique) → map own_entry (values_of es) ≡ entries_shown es
own_by_lookup es distinct own = own_entries es (λ i unique w is. own unique w (lookup_from_place nat_eq_equiv es i unique w distinct is))

-- the copy of a request shows what it does
pub copy_shown : (w : Waiting) (copy : OwnedWaiting) → copy.at ≡ w.at → copy.unique ≡ w.unique → copy.said.0 ≡ w.said.0 → owned_shown copy ≡ own_entry w
copy_shown w copy at unique request i = (unique i, record { at = at i; request = request i })

-- the copy of the request of the highest unique
pub newest_copied : (newest : Option Waiting) (w : Waiting) (copy : OwnedWaiting) (copies : List OwnedWaiting) → newest ≡ Some w → copies ≡ copy ∷ [] → owned_shown copy ≡ own_entry w
    → map owned_shown copies ≡ entries_shown (newest_entry newest)
newest_copied newest w copy copies is one shown =
    ap (map owned_shown) one ∙ ap (λ (e : ℕ × PlainWaiting). e ∷ []) shown ∙ sym (ap (λ (o : Option Waiting). entries_shown (newest_entry o)) is)

-- or none
pub no_newest_copied : (newest : Option Waiting) (copies : List OwnedWaiting) → newest ≡ None → copies ≡ [] → map owned_shown copies ≡ entries_shown (newest_entry newest)
no_newest_copied newest copies is none = ap (map owned_shown) none ∙ sym (ap (λ (o : Option Waiting). entries_shown (newest_entry o)) is)

-- the copies behind a loop over requests
pub looped : (newest copies : List OwnedWaiting) (earlier begun left : List Waiting) → begun ≡ earlier → left ≡ []
    → map owned_shown copies ++ map own_entry left ≡ map owned_shown newest ++ map own_entry begun
    → map owned_shown copies ≡ map owned_shown newest ++ map own_entry earlier
looped newest copies earlier begun left first none kept =
    sym (append-nil (map owned_shown copies))
    ∙ ap (λ (ws : List Waiting). map owned_shown copies ++ map own_entry ws) (sym none)
    ∙ kept
    ∙ ap (λ (ws : List Waiting). map owned_shown newest ++ map own_entry ws) first

-- the copies of all requests, that of the highest unique first
pub all_copied : (o : Outstanding) (shown : List (ℕ × Waiting)) (newest copies : List OwnedWaiting) → outstanding_shown o ≡ shown
    → map own_entry (values_of o.earlier.entries) ≡ entries_shown o.earlier.entries → map owned_shown newest ≡ entries_shown (newest_entry o.newest)
    → map owned_shown copies ≡ map owned_shown newest ++ map own_entry (values_of o.earlier.entries) → map owned_shown copies ≡ entries_shown shown
all_copied o shown newest copies view own first all =
    all
    ∙ ap (λ (xs : List (ℕ × PlainWaiting)). map owned_shown newest ++ xs) own
    ∙ ap (λ (xs : List (ℕ × PlainWaiting)). xs ++ entries_shown o.earlier.entries) first
    ∙ sym (map-append (λ (e : ℕ × Waiting). (e.0, waiting_shown e.1)) (newest_entry o.newest) o.earlier.entries)
    ∙ ap entries_shown view

-- ---- a table of copies

-- These requests stand behind those that are left, and the table has them: the first of each unique, if there is one.
pub record IsFilledBehind (all left : List OwnedWaiting) (table : List (ℕ × Waiting)) : Type 0 where
  pub behind : List OwnedWaiting
  pub parted : all ≡ left ++ behind
  pub found : (unique : ℕ) → find nat_cmp unique (by_unique table) ≡ find nat_cmp unique (map owned_shown behind)

-- none of them
pub none_filled : (all left : List OwnedWaiting) (table : List (ℕ × Waiting)) → left ≡ all → table ≡ [] → IsFilledBehind all left table
none_filled all left table same empty = record {
  behind = [];
  parted = sym same ∙ sym (append-nil left);
  found = λ unique. ap (λ (es : List (ℕ × Waiting)). find nat_cmp unique (by_unique es)) empty ∙ find_by_unique unique [];
}

-- one more
pub one_filled : (all left next : List OwnedWaiting) (table new : List (ℕ × Waiting)) (copy : OwnedWaiting) (w : Waiting) → left ≡ next ++ copy ∷ []
    → w.at ≡ copy.at → w.unique ≡ copy.unique → w.said.0 ≡ copy.said.0
    → ((unique : ℕ) → lookup (nat_eq unique) new ≡ cond (nat_eq w.unique unique) (Some w) (lookup (nat_eq unique) table))
    → IsFilledBehind all left table → IsFilledBehind all next new
one_filled all left next table new copy w last at unique request inserted filled = record {
  behind = copy ∷ filled.behind;
  parted = filled.parted ∙ ap (λ (xs : List OwnedWaiting). xs ++ filled.behind) last ∙ append_assoc next (copy ∷ []) filled.behind;
  found = λ u.
      let shown : own_entry w ≡ owned_shown copy = sym (copy_shown w copy (sym at) (sym unique) (sym request)) in
      shown_insert table new w w.unique inserted u
      ∙ ap (λ (o : Option PlainWaiting). cond (nat_eq u w.unique) (Some (waiting_shown w)) o) (filled.found u)
      ∙ ap (λ (e : ℕ × PlainWaiting). cond (nat_eq u e.0) (Some e.1) (find nat_cmp u (map owned_shown filled.behind))) shown
      ∙ ap (λ (b : Bool). cond b (Some (owned_shown copy).1) (find nat_cmp u (map owned_shown filled.behind))) (sym (unsigned_tied u copy.unique));
}

-- all of them
pub all_filled : (all left : List OwnedWaiting) (table : List (ℕ × Waiting)) → left ≡ [] → IsFilledBehind all left table → by_unique table ≡ owned_by_unique all
all_filled all left table none filled =
    let whole : all ≡ filled.behind = filled.parted ∙ ap (λ (xs : List OwnedWaiting). xs ++ filled.behind) none in
    let same : from_entries {R = nat_cmp} (entries_shown table) ≡ from_entries {R = nat_cmp} (map owned_shown filled.behind) =
    same_map nat_cmp_total nat_cmp-IsAntisymmetric _ _ (λ u. get-entries _ u ∙ filled.found u ∙ sym (get-from_entries nat_cmp_total (map owned_shown filled.behind) u)) in
    ap entries same ∙ ap owned_by_unique (sym whole)
