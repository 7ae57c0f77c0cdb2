-- The walk up the tree, from a directory to its parent.
use Rattle.std.proofs.Common.{◌≡◌, ◌⊎◌, ◌↔◌, ◌-◌, ◌<◌, ◌≤◌, length, unwrap_or, ℕ, zero, suc, Bool, true, false, cond, T, List, [], ◌∷◌, Option, None, Some, refl, sym, ap, subst, ◌∙◌, inl, inr, arith}
use Rattle.std.specs.Ordering.{eq_by_cmp, is_eq, is_lt}
use Rattle.std.specs.declared.cmp.Ordering.{Ordering}
use Rattle.std.specs.declared.cmp.Ordering.TheVariants.{Less, Equal, Greater}
use Rattle.std.specs.FinMap.{entries, get-entries, entries_sorted, find, is_sorted, len, len-entries}
use Rattle.std.specs.FinMap.Entries.{below_all}
use Rattle.fa_session.proofs.CallerLemmas.{both_first, both_second}
use Rattle.fa_tree.specs.declared.id.FileId.{FileId}
use Rattle.fa_tree.specs.State.{File, Store, Place, file_cmp, file_eq, place_cmp, HasName, IsDirectory, IsParent, IsBelow}
use Rattle.fa_tree.specs.State.IsBelow.{child, further}
use Rattle.fa_tree.specs.Shape.{IsRooted, IsTree}
use Rattle.fa_tree.specs.Shape.IsRooted.{rooted}
use Rattle.fa_tree.specs.parts.FileIdLaws.{same_file, file_tested}
use Rattle.fa_tree.specs.parts.StoredParts.{StoredShown}
use Rattle.fa_tree.specs.parts.ShapeParts.{parent_in, parent_of, Climbs}
use Rattle.fa_tree.specs.parts.ShapeParts.Climbs.{at_top, goes_on}
use Rattle.indexmap.proofs.IndexTableLemmas.Probe.{Into, OneToOne, pigeonhole}
use Rattle.fa_tree.proofs.PlaceOrderLemmas.{place_self}
use Rattle.fa_tree.specs.parts.PlaceLaws.{same_place}

-- ---- the walk up

-- what is stored in the same state is a tree too
pub still_tree : (t u : StoredShown) → t ≡ u → IsTree t.store → IsTree u.store
still_tree t u same tree = subst (λ (v : StoredShown). IsTree v.store) same tree

-- what is above a directory is its parent or above this
pub above : (s : Store) (f p d : FileId) (name : List ℕ) → IsTree s → HasName s p name d → IsDirectory s d → IsBelow s f d ↔ ((f ≡ p) ⊎ IsBelow s f p)
above s f p d name tree has kind = (up, down)
  where
    up : IsBelow s f d → (f ≡ p) ⊎ IsBelow s f p
    up (child _ _ is) = inl (tree.one_name f p is.0 name d is.1 has kind).0
    up (further _ between _ is rest) = inr (subst (IsBelow s f) (tree.one_name between p is.0 name d is.1 has kind).0 rest)

    down : (f ≡ p) ⊎ IsBelow s f p → IsBelow s f d
    down (inl same) = child f d (name, subst (λ x. HasName s x name d) (sym same) has)
    down (inr below) = further f p d (name, has) below

-- what is above a directory, but for its parent, is above its parent
pub above_parent : (s : Store) (f p d : FileId) (name : List ℕ) → IsTree s → HasName s p name d → IsDirectory s d → (p ≡ f → ⊥) → IsBelow s f d ↔ IsBelow s f p
above_parent s f p d name tree has kind other =
    let is = above s f p d name tree has kind in
    (λ b. elim (is.0 b) [ inl same ↦ absurd (other (sym same)) | inr rest ↦ rest ], λ b. is.1 (inr b))

-- what has no name is below nothing
pub none_above : (s : Store) (f d : FileId) → ((p : FileId) → IsParent s p d → ⊥) → IsBelow s f d → ⊥
none_above s f d none (child _ _ is) = none f is
none_above s f d none (further _ between _ is rest) = none between is

-- ---- parents among the entries

-- what is below does not tie
below_apart : (r : Ordering) → T (is_lt r) → is_eq r ≡ false
below_apart Less is = refl
below_apart Equal is = absurd is
below_apart Greater is = absurd is

-- a key below each key of a list is not found in it
none_found : (place : Place) (es : List (Place × FileId)) → T (below_all place_cmp place es) → find place_cmp place es ≡ None
none_found place [] below = refl
none_found place (e ∷ es) below =
    let low : is_eq (place_cmp place e.0) ≡ false = below_apart (place_cmp place e.0) (both_first (is_lt (place_cmp place e.0)) (below_all place_cmp place es) below) in
    ap (λ b. cond b (Some e.1) (find place_cmp place es)) low
    ∙ none_found place es (both_second (is_lt (place_cmp place e.0)) (below_all place_cmp place es) below)

-- what is found later in a list in order is found in it
find_later : (e : Place × FileId) (es : List (Place × FileId)) (place : Place) (file : FileId) → T (is_sorted place_cmp (e ∷ es)) → find place_cmp place es ≡ Some file
    → find place_cmp place (e ∷ es) ≡ Some file
find_later e es place file sorted is = by (eq_by_cmp place_cmp place e.0) refl
  where
    by : (b : Bool) → eq_by_cmp place_cmp place e.0 ≡ b → cond b (Some e.1) (find place_cmp place es) ≡ Some file
    by true tie =
        let same : place ≡ e.0 = same_place place e.0 tie in
        let none : find place_cmp place es ≡ None = subst (λ p. find place_cmp p es ≡ None) (sym same) (none_found e.0 es (both_first (below_all place_cmp e.0 es) (is_sorted place_cmp es) sorted)) in
        let clash : None ≡ Some file = sym none ∙ is in
        absurd cc
    by false apart = is

-- the first name for a file is found
parent_found : (es : List (Place × FileId)) (file parent : FileId) → T (is_sorted place_cmp es) → parent_in es file ≡ Some parent
    → (name : List ℕ) × (find place_cmp (parent, name) es ≡ Some file)
parent_found [] file parent sorted is = absurd cc
parent_found (e ∷ es) file parent sorted is =
    elim (file_eq e.1 file) as (λ b. file_eq e.1 file ≡ b → cond b (Some e.0.0) (parent_in es file) ≡ Some parent → (name : List ℕ) × (find place_cmp (parent, name) (e ∷ es) ≡ Some file)) [
      | true ↦ λ test here.
          let own : e.1 ≡ file = same_file e.1 file test in
          let at : e.0.0 ≡ parent = cc in
          subst (λ p. (name : List ℕ) × (find place_cmp (p, name) (e ∷ es) ≡ Some file)) at
          (e.0.1, ap (λ b. cond b (Some e.1) (find place_cmp e.0 es)) (place_self e.0) ∙ ap (λ x. Some x) own)
      | false ↦ λ test later.
          let found = parent_found es file parent (both_second (below_all place_cmp e.0 es) (is_sorted place_cmp es) sorted) later in
          (found.0, find_later e es (parent, found.0) file sorted found.1)
    ] refl is

-- where a name for a file is found, there is a first one
found_parent : (es : List (Place × FileId)) (place : Place) (file : FileId) → find place_cmp place es ≡ Some file → parent_in es file ≡ None → ⊥
found_parent [] place file is none = absurd cc
found_parent (e ∷ es) place file is none =
    elim (eq_by_cmp place_cmp place e.0) as (λ b. cond b (Some e.1) (find place_cmp place es) ≡ Some file → ⊥) [
      | true ↦ λ here.
          let own : e.1 ≡ file = cc in
          let test : file_eq e.1 file ≡ true = file_tested e.1 file own in
          let clash : Some e.0.0 ≡ None = sym (ap (λ b. cond b (Some e.0.0) (parent_in es file)) test) ∙ none in
          absurd cc
      | false ↦ λ later. found_parent es place file later (rest_none (file_eq e.1 file) none)
    ] is
  where
    rest_none : (b : Bool) → cond b (Some e.0.0) (parent_in es file) ≡ None → parent_in es file ≡ None
    rest_none true is_none = absurd cc
    rest_none false is_none = is_none

-- the file whose name is found first has that directory for a parent
pub parent_is : (s : Store) (file parent : FileId) → parent_of s file ≡ Some parent → IsParent s parent file
parent_is s file parent is =
    let found = parent_found (entries s.names) file parent (entries_sorted s.names) is in
    (found.0, get-entries s.names (parent, found.0) ∙ found.1)

-- where none is found there is none
pub parent_is_none : (s : Store) (file : FileId) → parent_of s file ≡ None → (parent : FileId) → IsParent s parent file → ⊥
parent_is_none s file none parent is = found_parent (entries s.names) (parent, is.0) file (sym (get-entries s.names (parent, is.0)) ∙ is.1) none

-- of a directory in a tree the one that is found is the parent
pub parent_is_one : (s : Store) (file parent : FileId) → IsTree s → IsDirectory s file → IsParent s parent file → parent_of s file ≡ Some parent
parent_is_one s file parent tree kind is = by (parent_of s file) refl
  where
    by : (o : Option FileId) → parent_of s file ≡ o → o ≡ Some parent
    by None found = absurd (parent_is_none s file found parent is)
    by (Some p) found =
        let other = parent_is s file p found in
        ap (λ x. Some x) (tree.one_name p parent other.0 is.0 file other.1 is.1 kind).0

-- ---- how long the way up is

-- a way up that ends is some steps long
pub climbs : (s : Store) (d : FileId) → IsRooted s d → (steps : ℕ) × Climbs s d steps
climbs s d (rooted _ up) =
    elim (parent_of s d) as (λ o. parent_of s d ≡ o → (steps : ℕ) × Climbs s d steps) [
      | None ↦ λ none. (zero, at_top d (parent_is_none s d none))
      | Some p ↦ λ found.
          let is = parent_is s d p found in
          let rest = climbs s p (up p is) in
          (suc rest.0, goes_on d p rest.0 is rest.1)
    ] refl

-- it is so many steps long for one number alone
pub climbs_once : (s : Store) (d : FileId) (n m : ℕ) → IsTree s → IsDirectory s d → Climbs s d n → Climbs s d m → n ≡ m
climbs_once s d n m tree kind (at_top _ none) (at_top _ also) = refl
climbs_once s d n m tree kind (at_top _ none) (goes_on _ p k is more) = absurd (none p is)
climbs_once s d n m tree kind (goes_on _ p k is more) (at_top _ none) = absurd (none p is)
climbs_once s d n m tree kind (goes_on _ p k is more) (goes_on _ q l also rest) =
    let same : p ≡ q = (tree.one_name p q is.0 also.0 d is.1 also.1 kind).0 in
    ap suc (climbs_once s p k l tree (tree.inside p is.0 d is.1) more (subst (λ x. Climbs s x l) (sym same) rest))

-- one step up leaves one fewer
pub climbs_up : (s : Store) (d p : FileId) (n : ℕ) (name : List ℕ) → IsTree s → IsDirectory s d → HasName s p name d → Climbs s d n
    → (m : ℕ) × (n ≡ suc m) × Climbs s p m
climbs_up s d p n name tree kind has (at_top _ none) = absurd (none p (name, has))
climbs_up s d p n name tree kind has (goes_on _ q k is more) =
    (k, refl, subst (λ x. Climbs s x k) (tree.one_name q p is.0 name d is.1 has kind).0 more)

-- in a tree each way up is some steps long
pub tree_climbs : (s : Store) (d : FileId) → IsTree s → (steps : ℕ) × Climbs s d steps
tree_climbs s d tree = climbs s d (tree.ends d)

-- ---- how long it can be

-- the parent of a file, or the file where it has none
abbrev next : Store → FileId → FileId
next s d = unwrap_or (parent_of s d) d

-- so many steps up from a file
abbrev up_by : Store → FileId → ℕ → FileId
up_by s d zero = d
up_by s d (suc i) = up_by s (next s d) i

-- each file on the way up from a directory is a directory, with what is left of the way
up_some : (s : Store) (d : FileId) (n i : ℕ) → IsTree s → IsDirectory s d → Climbs s d n → i ≤ n → IsDirectory s (up_by s d i) × Climbs s (up_by s d i) (n - i)
up_some s d n zero tree kind up few = (kind, subst (Climbs s d) (omega arith) up)
up_some s d n (suc i) tree kind (at_top _ none) few = absurd (omega (arith, few))
up_some s d n (suc i) tree kind (goes_on _ p k is more) few =
    let at : next s d ≡ p = ap (λ o. unwrap_or o d) (parent_is_one s d p tree kind is) in
    let rest : IsDirectory s (up_by s p i) × Climbs s (up_by s p i) (k - i) = up_some s p k i tree (tree.inside p is.0 d is.1) more (omega (arith, few)) in
    let same : k - i ≡ suc k - suc i = omega arith in
    subst (λ q. IsDirectory s (up_by s q i) × Climbs s (up_by s q i) (suc k - suc i)) (sym at)
    (rest.0, subst (Climbs s (up_by s p i)) same rest.1)

-- the place of a file among entries
abbrev place_in : (entries : List (FileId × File)) → FileId → ℕ
place_in [] q = 0
place_in (e ∷ entries) q = cond (file_eq q e.0) 0 (suc (place_in entries q))

-- what is found has one, and no other file has the same
place_within : (entries : List (FileId × File)) (q : FileId) (file : File) → find file_cmp q entries ≡ Some file → place_in entries q < length entries
place_within [] q file is = absurd cc
place_within (e ∷ entries) q file is = by (file_eq q e.0) is (place_within entries q file)
  where
    by : (b : Bool) → cond b (Some e.1) (find file_cmp q entries) ≡ Some file → (find file_cmp q entries ≡ Some file → place_in entries q < length entries)
        → cond b 0 (suc (place_in entries q)) < suc (length entries)
    by true is later = omega arith
    by false is later = let rest = later is in omega (arith, rest)

place_of_one : (entries : List (FileId × File)) (p q : FileId) (file other : File) → find file_cmp p entries ≡ Some file → find file_cmp q entries ≡ Some other → place_in entries p ≡ place_in entries q → p ≡ q
place_of_one [] p q file other is also same = absurd cc
place_of_one (e ∷ entries) p q file other is also same = by (file_eq p e.0) (file_eq q e.0) refl refl is also same (place_of_one entries p q file other)
  where
    by : (a b : Bool) → file_eq p e.0 ≡ a → file_eq q e.0 ≡ b → cond a (Some e.1) (find file_cmp p entries) ≡ Some file → cond b (Some e.1) (find file_cmp q entries) ≡ Some other
        → cond a 0 (suc (place_in entries p)) ≡ cond b 0 (suc (place_in entries q))
        → (find file_cmp p entries ≡ Some file → find file_cmp q entries ≡ Some other → place_in entries p ≡ place_in entries q → p ≡ q) → p ≡ q
    by true true one two is also same later = same_file p e.0 one ∙ sym (same_file q e.0 two)
    by true false one two is also same later = absurd (omega (arith, same))
    by false true one two is also same later = absurd (omega (arith, same))
    by false false one two is also same later = later is also (omega (arith, same))

-- the way up from a directory has fewer steps than there are files
pub climbs_few : (s : Store) (d : FileId) (n : ℕ) → IsTree s → IsDirectory s d → Climbs s d n → n < len s.files
climbs_few s d n tree kind up = (let few = pigeonhole (suc n) (length (entries s.files)) at into one in omega (arith, few, len-entries s.files))
  where
    at : ℕ → ℕ
    at i = place_in (entries s.files) (up_by s d i)

    on : (i : ℕ) → i < suc n → IsDirectory s (up_by s d i) × Climbs s (up_by s d i) (n - i)
    on i less = up_some s d n i tree kind up (omega (arith, less))

    there : (q : FileId) (is : IsDirectory s q) → find file_cmp q (entries s.files) ≡ Some is.0
    there q is = sym (get-entries s.files q) ∙ is.1

    into : Into at (suc n) (length (entries s.files))
    into i less = let is = (on i less).0 in place_within (entries s.files) (up_by s d i) is.0 (there (up_by s d i) is)

    one : OneToOne at (suc n)
    one i j low high same =
        let from_i = on i low in
        let from_j = on j high in
        let file : up_by s d i ≡ up_by s d j = place_of_one (entries s.files) (up_by s d i) (up_by s d j) from_i.0.0 from_j.0.0 (there (up_by s d i) from_i.0) (there (up_by s d j) from_j.0) same in
        let left : n - i ≡ n - j = climbs_once s (up_by s d i) (n - i) (n - j) tree from_i.0 from_i.1 (subst (λ q. Climbs s q (n - j)) (sym file) from_j.1) in
        omega (arith, left, low, high)
