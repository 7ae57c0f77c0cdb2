-- The table of the offsets that were reached, in the words of its steps.
use Rattle.std.proofs.Common.{◌≡◌, ◌≢◌, ℕ, zero, suc, ◌+◌, ◌≤◌, Bool, true, false, cond, List, [], ◌∷◌, ◌++◌, length, Option, None, Some, refl, sym, ap, subst, ◌∙◌, arith}
use Rattle.std.specs.List.{list_any}
use Rattle.std.specs.Prelude.{◌||◌, ◌==◌, if◌then◌else◌, nat_eq, is_none, IsTrue, option_map, option_and_then}
use Rattle.std.specs.Map.{lookup, set_value}
use Rattle.std.specs.Option.{option_or, option_map_or}
use Rattle.std.proofs.lemmas.Bool.Decides.{nat_tests}
use Rattle.fa_bodies.specs.Dirents.{PlainDirent}
use Rattle.fa_bodies.specs.Listing.{first_entry, first_entries, entries_in}
use Rattle.fa_ledger.specs.declared.key.Key.{Key}
use Rattle.fa_ledger.specs.declared.listings.Offsets.{Offsets}
use Rattle.fa_ledger.specs.declared.listings.Place.{Place}
use Rattle.fa_ledger.specs.Keys.{key_eq}
use Rattle.fa_ledger.specs.Listings.{count_to}
use Rattle.fa_ledger.specs.parts.ListingParts.{place_of, listed_shown, noted, noted_once, some_unreached}
use Rattle.fa_ledger.proofs.HandleLemmas.{key_same}

-- ---- few entries

few_found : (n : ℕ) (plus : Bool) (found : Option (PlainDirent × List ℕ)) → ((bytes : List ℕ) → length (first_entries n plus bytes) ≤ n)
    → length (option_map_or (λ f. f.0 ∷ first_entries n plus f.1) found []) ≤ suc n
few_found n plus None few = omega arith
few_found n plus (Some f) few = omega (arith, few f.1)

few_first : (n : ℕ) (plus : Bool) (bytes : List ℕ) → length (first_entries n plus bytes) ≤ n
unfolding first_entries
few_first zero plus bytes = omega arith
few_first (suc n) plus bytes = few_found n plus (first_entry plus bytes) (few_first n plus)

-- bytes hold no more entries than they are
pub few_entries : (plus : Bool) (bytes : List ℕ) → length (entries_in plus bytes) ≤ length bytes
unfolding entries_in
few_entries plus bytes = few_first (length bytes) plus bytes

-- ---- some entry

-- a test that an entry passes, some entry passes
pub any_at : {X : Type 0} (test : X → Bool) (front : List X) (x : X) (rest : List X) → test x ≡ true → list_any test (front ++ x ∷ rest) ≡ true
any_at test [] x rest is = any_first (test x) (list_any test rest) is
  where
    any_first : (a b : Bool) → a ≡ true → (a || b) ≡ true
    any_first true b is = refl
    any_first false b is = absurd (let clash : false ≡ true = is in cc)
any_at test (y ∷ front) x rest is = any_later (test y) (list_any test (front ++ x ∷ rest)) (any_at test front x rest is)
  where
    any_later : (a b : Bool) → b ≡ true → (a || b) ≡ true
    any_later true b is = refl
    any_later false b is = is

-- a test that no entry so far passes, nor one more
pub none_more : {X : Type 0} (test : X → Bool) (front : List X) (x : X) → list_any test front ≡ false → test x ≡ false → list_any test (front ++ x ∷ []) ≡ false
none_more test [] x none is = rw is refl
none_more test (y ∷ front) x none is = none_either (test y) (list_any test front) (list_any test (front ++ x ∷ [])) none (λ later. none_more test front x later is)
  where
    none_either : (a b c : Bool) → (a || b) ≡ false → (b ≡ false → c ≡ false) → (a || c) ≡ false
    none_either true b c none so = absurd (let clash : true ≡ false = none in cc)
    none_either false b c none so = so none

-- tests that agree
pub any_alike : {X : Type 0} (test other : X → Bool) (xs : List X) → ((x : X) → test x ≡ other x) → list_any test xs ≡ list_any other xs
any_alike test other [] same = refl
any_alike test other (x ∷ xs) same = rw (same x, any_alike test other xs same) refl

-- an offset that stands for nothing once it is noted stood for nothing before
pub noted_none : (asked : ℕ) (adrift : Bool) (count : Option ℕ) (old : Option Place) → noted asked adrift count old ≡ None → old ≡ None
noted_none asked adrift None old none = none
noted_none asked adrift (Some n) old none = absurd (let clash = none in cc)

-- ---- one entry more

-- how many entries there are up to an offset, with one entry more behind them
count_either : (test : Bool) (n : ℕ) (x : Option ℕ) → option_map (λ k. suc k) (option_or x (if test then Some (n + 1) else None)) ≡ option_or (option_map (λ k. suc k) x) (if test then Some (suc n + 1) else None)
count_either test n (Some k) = refl
count_either true n None = ap (λ k. Some k) (omega arith)
count_either false n None = refl

first_of : (offset : ℕ) (x : PlainDirent) (test : Bool) (later rest : Option ℕ) → later ≡ rest
    → (if test then Some 1 else later) ≡ (if test then Some 1 else rest)
first_of offset x true later rest same = refl
first_of offset x false later rest same = same

or_first : (test : Bool) (x y : Option ℕ) → (if test then Some 1 else option_or x y) ≡ option_or (if test then Some 1 else x) y
or_first true x y = refl
or_first false x y = refl

count_more : (offset : ℕ) (front : List PlainDirent) (d : PlainDirent) → count_to offset (front ++ d ∷ []) ≡ option_or (count_to offset front) (if d.off == offset then Some (length front + 1) else None)
count_more offset [] d = refl
count_more offset (x ∷ front) d =
    first_of offset x (x.off == offset) _ _ (ap (option_map (λ n. suc n)) (count_more offset front d) ∙ count_either (d.off == offset) (length front) (count_to offset front))
    ∙ or_first (x.off == offset) _ _

-- an offset that no entry so far has is noted here, and one that has been noted stays
noted_first : (asked n : ℕ) (adrift : Bool) (count : Option ℕ) (old : Option Place) → ((p : Place) → old ≡ Some p → p.asked ≢ asked)
    → noted_once (record { asked = asked; count = n; adrift = adrift }) (noted asked adrift count old) ≡ noted asked adrift (option_or count (Some n)) old
noted_first asked n adrift (Some k) old fresh = let test : (asked == asked) ≡ true = grind (arith, nat_tests) in rw test refl
noted_first asked n adrift None None fresh = refl
noted_first asked n adrift None (Some p) fresh =
    let test : (p.asked == asked) ≡ false = grind (arith, nat_tests, fresh p refl) in
    rw test refl

or_none : (x : Option ℕ) → option_or x None ≡ x
or_none None = refl
or_none (Some n) = refl

-- what stands for an offset once one entry more is noted: for its own, and for any other
noted_here : (asked n : ℕ) (adrift : Bool) (front : List PlainDirent) (d : PlainDirent) (old now : ℕ → Option Place) → n ≡ length front + 1
    → ((p : Place) → old d.off ≡ Some p → p.asked ≢ asked)
    → now d.off ≡ noted asked adrift (count_to d.off front) (old d.off)
    → noted_once (record { asked = asked; count = n; adrift = adrift }) (now d.off) ≡ noted asked adrift (count_to d.off (front ++ d ∷ [])) (old d.off)
noted_here asked n adrift front d old now long fresh noted_now =
    let test : (d.off == d.off) ≡ true = grind (arith, nat_tests) in
    rw (noted_now, count_more d.off front d, test, sym long) (noted_first asked n adrift (count_to d.off front) (old d.off) fresh)

noted_elsewhere : (asked : ℕ) (adrift : Bool) (front : List PlainDirent) (d : PlainDirent) (offset : ℕ) (old : Option Place) → (d.off == offset) ≡ false
    → noted asked adrift (count_to offset front) old ≡ noted asked adrift (count_to offset (front ++ d ∷ [])) old
noted_elsewhere asked adrift front d offset old test = rw (count_more offset front d, test, or_none (count_to offset front)) refl

pub noted_more : (asked n : ℕ) (adrift : Bool) (front : List PlainDirent) (d : PlainDirent) (old now new : ℕ → Option Place) → n ≡ length front + 1
    → ((offset : ℕ) (p : Place) → old offset ≡ Some p → p.asked ≢ asked)
    → ((offset : ℕ) → now offset ≡ noted asked adrift (count_to offset front) (old offset))
    → ((offset : ℕ) → new offset ≡ cond (nat_eq d.off offset) (noted_once (record { asked = asked; count = n; adrift = adrift }) (now d.off)) (now offset))
    → (offset : ℕ) → new offset ≡ noted asked adrift (count_to offset (front ++ d ∷ [])) (old offset)
noted_more asked n adrift front d old now new long fresh noted_now wrote offset =
    elim (d.off == offset) as (λ b. (d.off == offset) ≡ b → new offset ≡ noted asked adrift (count_to offset (front ++ d ∷ [])) (old offset)) [
      | true ↦ λ test.
          let same : d.off ≡ offset = grind (arith, nat_tests, test) in
          let own : nat_eq d.off d.off ≡ true = grind (arith, nat_tests) in
          subst (λ o. new o ≡ noted asked adrift (count_to o (front ++ d ∷ [])) (old o)) same
          (wrote d.off ∙ (rw own (noted_here asked n adrift front d old now long (fresh d.off) (noted_now d.off))))
      | false ↦ λ test.
          let other : nat_eq d.off offset ≡ false = grind (arith, nat_tests, test) in
          wrote offset ∙ (rw other (noted_now offset ∙ noted_elsewhere asked adrift front d offset (old offset) test))
    ] refl

-- ---- a write at a key

-- what is found is one
pub the_one : {X : Type 0} (found : Option X) (x y : X) → found ≡ Some x → found ≡ Some y → x ≡ y
the_one found x y is too = cc

-- what offsets, if there are any, have at an offset
abbrev pub place_among : ℕ → Option Offsets → Option Place
place_among offset some = option_and_then (λ offsets. lookup (nat_eq offset) offsets.places.entries) some

among_either : (test : Bool) (offset : ℕ) (w x : Option Offsets) → place_among offset (cond test w x) ≡ cond test (place_among offset w) (place_among offset x)
among_either true offset w x = refl
among_either false offset w x = refl

-- what offsets have that stand behind a key
pub place_found : (table : List (Key × Offsets)) (key : Key) (offset : ℕ) (w : Option Offsets) → lookup (key_eq key) table ≡ w → place_of table key offset ≡ place_among offset w
place_found table key offset w found = ap (place_among offset) found

pub places_after : (key : Key) (old new : List (Key × Offsets)) (w : Option Offsets)
    → ((other : Key) → lookup (key_eq other) new ≡ cond (key_eq key other) w (lookup (key_eq other) old))
    → (other : Key) (offset : ℕ) → place_of new other offset ≡ cond (key_eq key other) (place_among offset w) (place_of old other offset)
places_after key old new w wrote other offset = ap (place_among offset) (wrote other) ∙ among_either (key_eq key other) offset w (lookup (key_eq other) old)

-- what is changed at a key alone, by what stood there
pub changed_at : (key other : Key) (place : Key → Option Place) (change : Option Place → Option Place) (w : Option Place) → w ≡ change (place key)
    → cond (key_eq key other) w (place other) ≡ cond (key_eq key other) (change (place other)) (place other)
changed_at key other place change w is =
    elim (key_eq key other) as (λ b. key_eq key other ≡ b → cond b w (place other) ≡ cond b (change (place other)) (place other)) [
      | true ↦ λ test. is ∙ ap (λ k. change (place k)) (key_same key other test)
      | false ↦ λ test. refl
    ] refl

pub same_either : (test : Bool) (x : Option Place) → cond test x x ≡ x
same_either true x = refl
same_either false x = refl

-- offsets that take the place of others with the same places show the same
pub shown_alike : (test : Key → Bool) (table : List (Key × Offsets)) (old w : Offsets) → lookup test table ≡ Some old → w.places.entries ≡ old.places.entries
    → listed_shown (set_value test table w) ≡ listed_shown table
shown_alike test [] old w found same = refl
shown_alike test (row ∷ table) old w found same = shown_row (test row.0) row table old w found same (shown_alike test table old w)
  where
    shown_row : (b : Bool) (row : Key × Offsets) (table : List (Key × Offsets)) (old w : Offsets) → cond b (Some row.1) (lookup test table) ≡ Some old → w.places.entries ≡ old.places.entries
        → (lookup test table ≡ Some old → w.places.entries ≡ old.places.entries → listed_shown (set_value test table w) ≡ listed_shown table)
        → listed_shown (cond b ((row.0, w) ∷ table) (row ∷ set_value test table w)) ≡ listed_shown (row ∷ table)
    shown_row true row table old w found same later =
        let is : row.1 ≡ old = cc in
        ap (λ offsets. (row.0, offsets) ∷ listed_shown table) (same ∙ ap (λ o. o.places.entries) (sym is))
    shown_row false row table old w found same later = ap (λ rows. (row.0, row.1.places.entries) ∷ rows) (later found same)

-- where a key has no table, and has one if some offset is new, no entry is noted
pub nothing_noted : (table : List (Key × Offsets)) (key : Key) (asked : ℕ) (adrift : Bool) (ds : List PlainDirent) → lookup (key_eq key) table ≡ None
    → (IsTrue (some_unreached table key ds) → (offsets : Offsets) × (lookup (key_eq key) table ≡ Some offsets))
    → (other : Key) (offset : ℕ) → place_of table other offset ≡ cond (key_eq key other) (noted asked adrift (count_to offset ds) (place_of table other offset)) (place_of table other offset)
nothing_noted table key asked adrift [] none room other offset = sym (same_either (key_eq key other) (place_of table other offset))
nothing_noted table key asked adrift (d ∷ ds) none room other offset =
    let absent : is_none (place_of table key d.off) ≡ true = ap is_none (place_found table key d.off None none) in
    let found = room (rw absent refl) in
    let clash : None ≡ Some found.0 = sym none ∙ found.1 in
    absurd cc
