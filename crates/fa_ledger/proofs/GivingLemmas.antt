-- Nodes that are given: which of them are new, and the names that a listing gives.
use Rattle.std.proofs.Common.{append_assoc, ◌≡◌, ◌≢◌, ℕ, zero, suc, ◌+◌, Bool, true, false, List, [], ◌∷◌, ◌++◌, length, take, drop, Option, None, Some, refl, sym, ap, subst, ◌∙◌, arith}
use Rattle.std.specs.Prelude.{nat_eq, nat_le, ◌&&◌, is_none, map, All, ◌==◌, if◌then◌else◌}
use Rattle.std.specs.Map.{lookup}
use Rattle.std.specs.Option.{option_eq, option_map_or, option_to_list}
use Rattle.std.proofs.lemmas.Option.{same_Some}
use Rattle.std.proofs.lemmas.Bool.Decides.{nat_tests}
use Rattle.std.proofs.lemmas.List.{append-nil, map-append}
use Rattle.std.proofs.lemmas.List.Elements.{All-nil, All-push}
use Rattle.fa_capture.proofs.CallerLemmas.{all_middle}
use Rattle.fa_bodies.specs.declared.entry.EntryOut.{EntryOut}
use Rattle.fa_bodies.specs.declared.requests.TheConstants.{ROOT_ID}
use Rattle.fa_bodies.specs.declared.dirent.Entries.{Entries}
use Rattle.fa_bodies.specs.Dirents.{PlainDirent}
use Rattle.fa_bodies.specs.Listing.{entries_in, entries_left, first_dirent, first_entries, first_entry, is_listed_name, is_plus, padded, u32_in}
use Rattle.fa_ledger.specs.declared.name.NodeName.{NodeName}
use Rattle.fa_ledger.specs.declared.name.NodeName.TheVariants.{Root, Given}
use Rattle.fa_ledger.specs.declared.nodes.Lookups.{Lookups}
use Rattle.fa_ledger.specs.Mentions.{node_of}
use Rattle.fa_ledger.specs.Counts.{is_dots, nodes_of_entry, nodes_of_listing}
use Rattle.fa_ledger.specs.Passing.{MayBeGiven}
use Rattle.fa_ledger.proofs.TakingLemmas.{no_item}
use Rattle.fa_ledger.specs.parts.Steps.{given_again, times_named, is_new}

-- a node that is new after others were given was new before
pub new_before : (at n : ℕ) (x : Option Lookups) → is_none (given_again at n x) ≡ true → is_none x ≡ true
new_before at n None none = refl
new_before at zero (Some l) none = none
new_before at (suc n) (Some l) none = none

-- a name that is new in the table after others were given was new before
pub name_new_before : (at : ℕ) (known now : List (ℕ × Lookups)) (given : List NodeName) (name : NodeName)
    → ((node : ℕ) → lookup (nat_eq node) now ≡ given_again at (times_named node given) (lookup (nat_eq node) known))
    → is_new now name ≡ true → is_new known name ≡ true
name_new_before at known now given Root stands new = new
name_new_before at known now given (Given by id) stands new = new_before at (times_named id given) (lookup (nat_eq id) known) (rw (stands id) at new)

-- ---- listings

listing_both : (xs ys : List PlainDirent) → nodes_of_listing (xs ++ ys) ≡ nodes_of_listing xs ++ nodes_of_listing ys
listing_both [] ys = refl
listing_both (d ∷ xs) ys = ap (λ ns. nodes_of_entry d.entry d.name ++ ns) (listing_both xs ys) ∙ sym (append_assoc (nodes_of_entry d.entry d.name) (nodes_of_listing xs) (nodes_of_listing ys))

-- what a listing gives, with one entry more
pub listing_more : (front : List PlainDirent) (d : PlainDirent) → nodes_of_listing (front ++ d ∷ []) ≡ nodes_of_listing front ++ nodes_of_entry d.entry d.name
listing_more front d = listing_both front (d ∷ []) ∙ ap (λ ns. nodes_of_listing front ++ ns) (append-nil (nodes_of_entry d.entry d.name))

-- what a listing gives, about one of its entries
pub listing_around : (all front rest : List PlainDirent) (d : PlainDirent) → all ≡ front ++ d ∷ rest
    → nodes_of_listing all ≡ nodes_of_listing front ++ (nodes_of_entry d.entry d.name ++ nodes_of_listing rest)
listing_around all front rest d is = ap nodes_of_listing is ∙ listing_both front (d ∷ rest)

node_not_zero : (node id : ℕ) → (if node == 0 then [] else node ∷ []) ≡ id ∷ [] → id ≢ 0
node_not_zero node id is =
    elim (node == 0) as (λ b. (node == 0) ≡ b → (if b then [] else node ∷ []) ≡ id ∷ [] → id ≢ 0) [
      | true ↦ λ test none. absurd cc
      | false ↦ λ test own. λ zero_id. let same : node ≡ id = cc in grind (arith, nat_tests, test, same, zero_id)
    ] refl is

-- an entry gives no 0
entry_not_zero : (o : Option EntryOut) (name : List ℕ) (id : ℕ) → nodes_of_entry o name ≡ id ∷ [] → id ≢ 0
entry_not_zero None name id is = absurd cc
entry_not_zero (Some entry) name id is =
    elim (is_dots name) as (λ b. (if b then [] else node_of entry) ≡ id ∷ [] → id ≢ 0) [
      | true ↦ λ none. absurd cc
      | false ↦ λ own. node_not_zero entry.nodeid id own
    ] is

-- what an entry gives may be given, if it is not the root
pub entry_may : (o : Option EntryOut) (name : List ℕ) (r : Option ℕ) → option_to_list r ≡ nodes_of_entry o name → (r ≡ Some ROOT_ID → ⊥) → All MayBeGiven (nodes_of_entry o name)
entry_may o name None is other = subst (All MayBeGiven) is (All-nil MayBeGiven)
entry_may o name (Some id) is other =
    subst (All MayBeGiven) is (All-push MayBeGiven [] id (All-nil MayBeGiven) (entry_not_zero o name id (sym is), λ root. other (ap (λ x. Some x) root)))

-- ---- the test of the root

pub is_root : (r : Option ℕ) → option_eq nat_eq r (Some ROOT_ID) ≡ true → r ≡ Some ROOT_ID
is_root None is = absurd cc
is_root (Some id) is = let same : id ≡ ROOT_ID = grind (arith, nat_tests, is) in ap (λ x. Some x) same

pub not_the_root : (r : Option ℕ) → option_eq nat_eq r (Some ROOT_ID) ≡ false → r ≡ Some ROOT_ID → ⊥
not_the_root None not is = absurd cc
not_the_root (Some id) not is = let same : id ≡ ROOT_ID = cc in grind (arith, nat_tests, not, same)

-- an entry that gives the root gives what may not be given
pub root_may_not : (all front rest : List PlainDirent) (d : PlainDirent) (r : Option ℕ) → all ≡ front ++ d ∷ rest → option_to_list r ≡ nodes_of_entry d.entry d.name → r ≡ Some ROOT_ID
    → All MayBeGiven (nodes_of_listing all) → ⊥
root_may_not all front rest d r is gives root each =
    let own : ROOT_ID ∷ [] ≡ nodes_of_entry d.entry d.name = ap option_to_list (sym root) ∙ gives in
    let around : nodes_of_listing all ≡ nodes_of_listing front ++ ROOT_ID ∷ nodes_of_listing rest =
    listing_around all front rest d is ∙ ap (λ ns. nodes_of_listing front ++ (ns ++ nodes_of_listing rest)) (sym own) in
    (all_middle MayBeGiven (nodes_of_listing front) (nodes_of_listing rest) ROOT_ID (subst (All MayBeGiven) around each)).1 refl

-- ---- names of a listing's nodes

-- an entry that gives none adds no name
pub none_listed : (f : ℕ → NodeName) (front : List PlainDirent) (d : PlainDirent) (r : Option ℕ) (names : List NodeName) → names ≡ map f (nodes_of_listing front)
    → option_to_list r ≡ nodes_of_entry d.entry d.name → r ≡ None → names ≡ map f (nodes_of_listing (front ++ d ∷ []))
none_listed f front d r names so_far gives none =
    let nothing : [] ≡ nodes_of_entry d.entry d.name = ap option_to_list (sym none) ∙ gives in
    let whole : nodes_of_listing (front ++ d ∷ []) ≡ nodes_of_listing front =
    listing_more front d ∙ ap (λ ns. nodes_of_listing front ++ ns) (sym nothing) ∙ append-nil (nodes_of_listing front) in
    so_far ∙ ap (map f) (sym whole)

-- an entry that gives a node adds its name
pub one_listed : (f : ℕ → NodeName) (front : List PlainDirent) (d : PlainDirent) (r : Option ℕ) (id : ℕ) (names : List NodeName) → names ≡ map f (nodes_of_listing front)
    → option_to_list r ≡ nodes_of_entry d.entry d.name → r ≡ Some id → names ++ f id ∷ [] ≡ map f (nodes_of_listing (front ++ d ∷ []))
one_listed f front d r id names so_far gives some =
    let own : id ∷ [] ≡ nodes_of_entry d.entry d.name = ap option_to_list (sym some) ∙ gives in
    let whole : nodes_of_listing (front ++ d ∷ []) ≡ nodes_of_listing front ++ id ∷ [] = listing_more front d ∙ ap (λ ns. nodes_of_listing front ++ ns) (sym own) in
    ap (λ ns. ns ++ f id ∷ []) so_far ∙ sym (map-append f (nodes_of_listing front) (id ∷ [])) ∙ ap (map f) (sym whole)

-- a listing with an entry that gives a node gives some
pub some_listed : (all front rest : List PlainDirent) (d : PlainDirent) (r : Option ℕ) (id : ℕ) → all ≡ front ++ d ∷ rest → option_to_list r ≡ nodes_of_entry d.entry d.name → r ≡ Some id
    → nodes_of_listing all ≢ []
some_listed all front rest d r id is gives some nothing =
    let own : id ∷ [] ≡ nodes_of_entry d.entry d.name = ap option_to_list (sym some) ∙ gives in
    let around : nodes_of_listing all ≡ nodes_of_listing front ++ id ∷ nodes_of_listing rest =
    listing_around all front rest d is ∙ ap (λ ns. nodes_of_listing front ++ (ns ++ nodes_of_listing rest)) (sym own) in
    no_item (nodes_of_listing front) id (nodes_of_listing rest) (sym nothing ∙ around)

-- ---- a READDIR

bare_dirent : (bytes : List ℕ) (found : PlainDirent × List ℕ) → first_dirent None bytes ≡ Some found → found.0.entry ≡ None
unfolding first_dirent
bare_dirent bytes found is =
    let namelen = u32_in (drop 16 bytes) in
    by (nat_le (24 + padded namelen) (length bytes) && is_listed_name (take namelen (drop 24 bytes))) _ refl is
  where
    by : (b : Bool) (it : PlainDirent × List ℕ) → it.0.entry ≡ None → (if b then Some it else None) ≡ Some found → found.0.entry ≡ None
    by true it none is = ap (λ (f : PlainDirent × List ℕ). f.0.entry) (sym (same_Some it found is)) ∙ none
    by false it none is = absurd cc

one_bare : (rest : List ℕ → List PlainDirent) → ((bytes : List ℕ) → nodes_of_listing (rest bytes) ≡ []) → (bytes : List ℕ) (found : Option (PlainDirent × List ℕ)) → first_dirent None bytes ≡ found
    → nodes_of_listing (option_map_or (λ f. f.0 ∷ rest f.1) found []) ≡ []
one_bare rest bare bytes None is = refl
one_bare rest bare bytes (Some found) is =
    ap (λ (e : Option EntryOut). nodes_of_entry e found.0.name ++ nodes_of_listing (rest found.1)) (bare_dirent bytes found is) ∙ bare found.1

bare_entries : (count : ℕ) (bytes : List ℕ) → nodes_of_listing (first_entries count false bytes) ≡ []
unfolding first_entries first_entry
bare_entries zero bytes = refl
bare_entries (suc count) bytes = one_bare (first_entries count false) (bare_entries count) bytes (first_dirent None bytes) refl

-- no entry of a READDIR gives a node
pub readdir_gives_none : (listing : Entries) → is_plus listing ≡ false → nodes_of_listing (entries_left listing) ≡ []
unfolding entries_in
readdir_gives_none listing bare =
    ap (λ (plus : Bool). nodes_of_listing (first_entries (length listing.bytes.now) plus listing.bytes.now)) bare ∙ bare_entries (length listing.bytes.now) listing.bytes.now

pub none_may : (nodes : List ℕ) → nodes ≡ [] → All MayBeGiven nodes
none_may nodes none = subst (All MayBeGiven) (sym none) (All-nil MayBeGiven)
