-- Lists: what stands at a place, in parts, in a front, behind a write or one more, and in lists of numbers that rise.
use Rattle.std.proofs.Common.{◌≡◌, ℕ, zero, suc, ◌+◌, ◌<◌, ◌≤◌, ◌==◌, ◌⊎◌, Bool, true, false, cond, List, [], ◌∷◌, ◌++◌, length, take, drop, get_or, set, Some, None, refl, sym, ap, subst, ◌∙◌, inl, inr, zero-add, suc-add, add-one, arith}
use Rattle.std.specs.Prelude.{slice_get, All, AllPairs, Contains, position, nat_lt, count_by, if◌then◌else◌}
use Rattle.std.specs.List.{position_or_len}
use Rattle.std.specs.List.Sorted.{IsStrictlyIncreasing}
use Rattle.std.specs.Map.{lookup}
use Rattle.std.proofs.lemmas.Bool.{cases_eq, cases_lt, ltb-false}
use Rattle.std.proofs.lemmas.Bool.Decides.{nat_tests}
use Rattle.std.proofs.lemmas.Option.{slice_get_within, slice_get-get_or, get_or_from_slice_get}
use Rattle.std.proofs.lemmas.List.{length-append, length-take, length-set, take-take, take_at, take-append-drop, take-append-le, get_or-take, drop_more, get_or_at, get_or_append_left, get_or-append-add, get_or-set_same, get_or-set_other}
use Rattle.std.proofs.lemmas.List.Elements.{Contains-get_or, Contains-append_left}
use Rattle.std.proofs.lemmas.List.Kept.{AllPairs-from_increasing}
use Rattle.std.proofs.lemmas.List.Quantifiers.{position-Some}
use Rattle.std.proofs.lemmas.List.Sums.{fails_before_first, sum_by-cons}

-- ---- places

-- what stands in a front of a list stands in the list
pub get_of_front : {X : Type 0} (xs : List X) (count at : ℕ) (x : X) → slice_get (take count xs) at ≡ Some x → slice_get xs at ≡ Some x
get_of_front [] zero at x is = is
get_of_front [] (suc count) at x is = is
get_of_front (y ∷ xs) zero at x is = absurd cc
get_of_front (y ∷ xs) (suc count) zero x is = is
get_of_front (y ∷ xs) (suc count) (suc at) x is = get_of_front xs count at x is

-- what stands in a list stands in each front that is long enough
pub get_in_front : {X : Type 0} (xs : List X) (count at : ℕ) (x : X) → at < count → slice_get xs at ≡ Some x → slice_get (take count xs) at ≡ Some x
get_in_front [] count at x below is = absurd cc
get_in_front (y ∷ xs) zero at x below is = absurd (omega (arith, below))
get_in_front (y ∷ xs) (suc count) zero x below is = is
get_in_front (y ∷ xs) (suc count) (suc at) x below is = get_in_front xs count at x (omega (arith, below)) is

-- ---- the same list in two parts

-- the same element behind fronts of the same length
pub same_parts : {X : Type 0} (xs ys us vs : List X) (x y : X) → xs ++ x ∷ us ≡ ys ++ y ∷ vs → length xs ≡ length ys → (xs ≡ ys) × (x ≡ y)
same_parts [] [] us vs x y same long = (refl, cc)
same_parts [] (b ∷ ys) us vs x y same long = absurd (omega (arith, long))
same_parts (a ∷ xs) [] us vs x y same long = absurd (omega (arith, long))
same_parts (a ∷ xs) (b ∷ ys) us vs x y same long =
    let head : a ≡ b = cc in
    let tail : xs ++ x ∷ us ≡ ys ++ y ∷ vs = cc in
    let rest : (xs ≡ ys) × (x ≡ y) = same_parts xs ys us vs x y tail (omega (arith, long)) in
    let fronts : xs ≡ ys = rest.0 in
    (cc, rest.1)

-- the element behind the shorter front stands in the longer one
pub longer_front : {X : Type 0} (xs ys us vs : List X) (x y : X) → xs ++ x ∷ us ≡ ys ++ y ∷ vs → length xs < length ys → (mid : List X) × (ys ≡ xs ++ x ∷ mid)
longer_front [] [] us vs x y same short = absurd (omega (arith, short))
longer_front [] (b ∷ ys) us vs x y same short = (ys, cc)
longer_front (a ∷ xs) [] us vs x y same short = absurd (omega (arith, short))
longer_front {X = X} (a ∷ xs) (b ∷ ys) us vs x y same short =
    let head : a ≡ b = cc in
    let tail : xs ++ x ∷ us ≡ ys ++ y ∷ vs = cc in
    let rest : (mid : List X) × (ys ≡ xs ++ x ∷ mid) = longer_front xs ys us vs x y tail (omega (arith, short)) in
    let front : ys ≡ xs ++ x ∷ rest.0 = rest.1 in
    (rest.0, cc)

-- ---- elements

-- an element is the first or one behind it
pub contains_cases : {X : Type 0} (y : X) (xs : List X) (x : X) → Contains (y ∷ xs) x → (y ≡ x) ⊎ Contains xs x
contains_cases y xs x (zero, below, is) = inl is
contains_cases y xs x (suc k, below, is) = inr (k, omega (arith, below), is)

-- the first is an element
pub contains_first : {X : Type 0} (x : X) (xs : List X) → Contains (x ∷ xs) x
contains_first x xs = (0, omega arith, refl)

-- and so is each behind it
pub contains_behind : {X : Type 0} (y : X) (xs : List X) (x : X) → Contains xs x → Contains (y ∷ xs) x
contains_behind y xs x has = (suc has.0, omega (arith, has.1), has.2)

-- a number that is counted in a list is in it
pub counted_there : (numbers : List ℕ) (number : ℕ) → 0 < count_by (λ n. n == number) numbers → Contains numbers number
counted_there [] number some = absurd (omega (arith, some))
counted_there (n ∷ numbers) number some =
    elim (n == number) as (λ b. (n == number) ≡ b → Contains (n ∷ numbers) number) [
      | true ↦ λ test.
          let same : n ≡ number = grind (arith, nat_tests, test) in
          subst (Contains (n ∷ numbers)) same (contains_first n numbers)
      | false ↦ λ test.
          let none : ◌≡◌ {A = ℕ} (if n == number then 1 else 0) 0 = rw test refl in
          contains_behind n numbers number (counted_there numbers number (omega (arith, some, none, sum_by-cons (λ k. if k == number then 1 else 0) n numbers)))
    ] refl

-- what holds of each element holds of the one in the middle
pub all_middle : {X : Type 0} (P : X → Type 0) (xs ys : List X) (x : X) → All P (xs ++ x ∷ ys) → P x
all_middle P xs ys x all =
    subst P (get_or_at xs x ys x (length xs) refl) (all (length xs) x (omega (arith, length-append xs (x ∷ ys))))

-- a fact of each two holds of the one in the middle and each before it
pub pairs_before : {X : Type 0} (R : X → X → Type 0) (xs ys : List X) (y x : X) → AllPairs R (xs ++ x ∷ ys) → Contains xs y → R y x
pairs_before {X = X} R xs ys y x pairs has =
    let first : get_or (xs ++ x ∷ ys) has.0 y ≡ y = get_or_append_left xs (x ∷ ys) y has.0 has.1 ∙ has.2 in
    let second : get_or (xs ++ x ∷ ys) (length xs) y ≡ x = get_or_at xs x ys y (length xs) refl in
    subst (λ (u : X). R y u) second
    (subst (λ (u : X). R u (get_or (xs ++ x ∷ ys) (length xs) y)) first
    (pairs has.0 (length xs) y has.1 (omega (arith, length-append xs (x ∷ ys)))))

-- and of it and each behind it
pub pairs_behind : {X : Type 0} (R : X → X → Type 0) (xs ys : List X) (x y : X) → AllPairs R (xs ++ x ∷ ys) → Contains ys y → R x y
pairs_behind {X = X} R xs ys x y pairs has =
    let first : get_or (xs ++ x ∷ ys) (length xs) y ≡ x = get_or_at xs x ys y (length xs) refl in
    let second : get_or (xs ++ x ∷ ys) (length xs + suc has.0) y ≡ y = get_or-append-add xs (x ∷ ys) (suc has.0) y ∙ has.2 in
    subst (λ (u : X). R x u) second
    (subst (λ (u : X). R u (get_or (xs ++ x ∷ ys) (length xs + suc has.0) y)) first
    (pairs (length xs) (length xs + suc has.0) y (omega arith) (omega (arith, has.1, length-append xs (x ∷ ys)))))

-- ---- fronts

-- a list is its front, the element behind it and the rest
pub parts_at : {X : Type 0} (xs : List X) (k : ℕ) (d : X) → k < length xs → xs ≡ take k xs ++ get_or xs k d ∷ drop (k + 1) xs
parts_at {X = X} xs k d within = sym (take-append-drop k xs) ∙ ap (λ (ys : List X). take k xs ++ ys) (drop_more xs k d within)

-- an element of a front is one of each longer front
pub contains_longer : {X : Type 0} (xs : List X) (i j : ℕ) (x : X) → i ≤ j → Contains (take i xs) x → Contains (take j xs) x
contains_longer {X = X} xs i j x before has =
    let shorter : Contains (take i (take j xs)) x = subst (λ (ys : List X). Contains ys x) (sym (take-take i j xs before)) has in
    subst (λ (ys : List X). Contains ys x) (take-append-drop i (take j xs)) (Contains-append_left (take i (take j xs)) (drop i (take j xs)) x shorter)

-- what stands before a place is in the front up to it
pub contains_front : {X : Type 0} (xs : List X) (i j : ℕ) (d : X) → i < j → j < length xs → Contains (take j xs) (get_or xs i d)
contains_front {X = X} xs i j d before within =
    subst (Contains (take j xs)) (get_or-take j xs i d before) (Contains-get_or (take j xs) i d (omega (arith, before, within, length-take j xs)))

-- ---- lists in order

module _ {X : Type 0} (R : X → X → Type 0) where
  -- behind the first the others are in order too
  pub pairs_tail : (x : X) (xs : List X) → AllPairs R (x ∷ xs) → AllPairs R xs
  pairs_tail x xs pairs i j d before within = pairs (suc i) (suc j) d (omega (arith, before)) (omega (arith, within))

  module _ (strict : (x y : X) → R x y → R y x → ⊥) where
    -- what two lists in order have behind the same first
    behind_kept : (x : X) (xs ys : List X) → AllPairs R (x ∷ xs) → ((z : X) → Contains (x ∷ xs) z → Contains (x ∷ ys) z) → (z : X) → Contains xs z → Contains ys z
    behind_kept x xs ys pairs kept z has =
        elim (contains_cases x ys z (kept z (contains_behind x xs z has))) [
          | inl first ↦
              let itself : R x x = subst (R x) (sym first) (pairs_behind R [] xs x z pairs has) in
              absurd (strict x x itself itself)
          | inr behind ↦ behind
        ]

    -- lists in order that have the same elements have the same first
    same_first : (x y : X) (xs ys : List X) → AllPairs R (x ∷ xs) → AllPairs R (y ∷ ys) → Contains (y ∷ ys) x → Contains (x ∷ xs) y → x ≡ y
    same_first x y xs ys pairs others to from =
        elim (contains_cases y ys x to) [
          | inl same ↦ sym same
          | inr behind ↦ elim (contains_cases x xs y from) [
            | inl same ↦ same
            | inr later ↦ absurd (strict y x (pairs_behind R [] ys y x others behind) (pairs_behind R [] xs x y pairs later))
          ]
        ]

    -- lists in order that have the same elements are one
    pub same_order : (xs ys : List X) → AllPairs R xs → AllPairs R ys → ((z : X) → Contains xs z → Contains ys z) → ((z : X) → Contains ys z → Contains xs z) → xs ≡ ys
    same_order [] [] pairs others to from = refl
    same_order [] (y ∷ ys) pairs others to from = let has : Contains [] y = from y (contains_first y ys) in absurd (omega (arith, has.1))
    same_order (x ∷ xs) [] pairs others to from = let has : Contains [] x = to x (contains_first x xs) in absurd (omega (arith, has.1))
    same_order (x ∷ xs) (y ∷ ys) pairs others to from =
        let first : x ≡ y = same_first x y xs ys pairs others (to x (contains_first x xs)) (from y (contains_first y ys)) in
        let there : (z : X) → Contains (x ∷ xs) z → Contains (x ∷ ys) z = subst (λ (u : X). (z : X) → Contains (x ∷ xs) z → Contains (u ∷ ys) z) (sym first) to in
        let back : (z : X) → Contains (x ∷ ys) z → Contains (x ∷ xs) z = subst (λ (u : X). (z : X) → Contains (u ∷ ys) z → Contains (x ∷ xs) z) (sym first) from in
        let moved : AllPairs R (x ∷ ys) = subst (λ (u : X). AllPairs R (u ∷ ys)) (sym first) others in
        let rest : xs ≡ ys = same_order xs ys (pairs_tail x xs pairs) (pairs_tail x ys moved) (behind_kept x xs ys pairs there) (behind_kept x ys xs moved back) in
        cc

-- ---- numbers that rise

-- the first is below all others
pub first_least : (x : ℕ) (xs : List ℕ) (y : ℕ) → AllPairs (λ a b. a < b) (x ∷ xs) → Contains xs y → x < y
first_least x xs y pairs has = pairs_behind (λ a b. a < b) [] xs x y pairs has

-- lists of rising numbers that have the same numbers are one
pub rising_is_one : (xs ys : List ℕ) → IsStrictlyIncreasing xs → IsStrictlyIncreasing ys → ((z : ℕ) → Contains xs z → Contains ys z) → ((z : ℕ) → Contains ys z → Contains xs z) → xs ≡ ys
rising_is_one xs ys rise rises to from =
    same_order (λ a b. a < b) (λ a b below above. omega (arith, below, above)) xs ys (AllPairs-from_increasing xs rise) (AllPairs-from_increasing ys rises) to from

-- such a list from one number up to another is no longer than what lies between
room : (xs : List ℕ) (low high : ℕ) → low ≤ high → AllPairs (λ a b. a < b) xs → ((z : ℕ) → Contains xs z → (low ≤ z) × (z < high)) → length xs + low ≤ high
room [] low high ordered pairs between = omega (arith, ordered)
room (x ∷ xs) low high ordered pairs between =
    let here : (low ≤ x) × (x < high) = between x (contains_first x xs) in
    let behind : length xs + suc low ≤ high = room xs (suc low) high (omega (arith, here.0, here.1)) (pairs_tail (λ a b. a < b) x xs pairs)
    (λ z has.
    let above : x < z = first_least x xs z pairs has in
    (omega (arith, here.0, above), (between z (contains_behind x xs z has)).1)) in
    omega (arith, behind)

-- rising numbers below a limit are no more than it
pub rising_within : (xs : List ℕ) (limit : ℕ) → IsStrictlyIncreasing xs → ((z : ℕ) → Contains xs z → z < limit) → length xs ≤ limit
rising_within xs limit rise below =
    let all : length xs + 0 ≤ limit = room xs 0 limit (omega arith) (AllPairs-from_increasing xs rise) (λ z has. (omega arith, below z has)) in
    omega (arith, all)

-- ---- whether a number is in a list

-- it is, or it is not
pub contains_decided : (xs : List ℕ) (x : ℕ) → Contains xs x ⊎ (Contains xs x → ⊥)
contains_decided [] x = inr (λ has. omega (arith, has.1))
contains_decided (y ∷ xs) x =
    elim (cases_eq y x) [
      | inl same ↦ inl (subst (λ (u : ℕ). Contains (y ∷ xs) u) same (contains_first y xs))
      | inr other ↦ elim (contains_decided xs x) [
        | inl has ↦ inl (contains_behind y xs x has)
        | inr lacks ↦ inr (λ has. elim (contains_cases y xs x has) [ inl first ↦ other first | inr behind ↦ lacks behind ])
      ]
    ]

-- ---- what is written

-- what is written stands at its place
pub get_set_same : {X : Type 0} (xs : List X) (i : ℕ) (x : X) → i < length xs → slice_get (set xs i x) i ≡ Some x
get_set_same xs i x within =
    slice_get-get_or (set xs i x) i x (omega (arith, within, length-set xs i x)) ∙ ap (λ (y : _). Some y) (get_or-set_same xs i x x within)

-- and the others stay
pub get_set_other : {X : Type 0} (xs : List X) (i k : ℕ) (x y : X) → (k ≡ i → ⊥) → slice_get xs k ≡ Some y → slice_get (set xs i x) k ≡ Some y
get_set_other xs i k x y other is =
    let within : k < length xs = slice_get_within xs k y is in
    slice_get-get_or (set xs i x) k y (omega (arith, within, length-set xs i x)) ∙ ap (λ (z : _). Some z) (get_or-set_other xs i k x y other ∙ get_or_from_slice_get xs k y y is)

-- as they were
pub get_set_back : {X : Type 0} (xs : List X) (i k : ℕ) (x y : X) → (k ≡ i → ⊥) → slice_get (set xs i x) k ≡ Some y → slice_get xs k ≡ Some y
get_set_back xs i k x y other is =
    let within : k < length (set xs i x) = slice_get_within (set xs i x) k y is in
    slice_get-get_or xs k y (omega (arith, within, length-set xs i x)) ∙ ap (λ (z : _). Some z) (sym (get_or-set_other xs i k x y other) ∙ get_or_from_slice_get (set xs i x) k y y is)

-- an element of the rest
pub get_from_drop : {X : Type 0} (n : ℕ) (xs : List X) (k : ℕ) (x : X) → slice_get (drop n xs) k ≡ Some x → slice_get xs (n + k) ≡ Some x
get_from_drop zero xs k x is = rw zero-add is
get_from_drop (suc n) [] k x is = absurd cc
get_from_drop (suc n) (y ∷ xs) k x is = rw suc-add (get_from_drop n xs k x is)

-- ---- searches

-- what a search finds
pub position_found : {X : Type 0} (p : X → Bool) (xs : List X) (i : ℕ) → position p xs ≡ Some i → (x : X) × (slice_get xs i ≡ Some x) × (p x ≡ true)
position_found p [] i is = absurd cc
position_found p (y ∷ xs) i is =
    let found = position-Some p (y ∷ xs) i y is in
    (get_or (y ∷ xs) i y, slice_get-get_or (y ∷ xs) i y found.0, found.1)

-- what stands before it
pub position_first : {X : Type 0} (p : X → Bool) (xs : List X) (i k : ℕ) (x : X) → position p xs ≡ Some i → k < i → slice_get xs k ≡ Some x → p x ≡ false
position_first p xs i k x is before there =
    let found = position-Some p xs i x is in
    ap p (sym (get_or_from_slice_get xs k x x there)) ∙ found.2 k before

none_below : (b : Bool) (n : ℕ) → cond b (Some n) None ≡ None → b ≡ false
none_below true n is = absurd cc
none_below false n is = refl

-- what stands in a list where a search finds nothing
pub position_none : {X : Type 0} (p : X → Bool) (xs : List X) (k : ℕ) (x : X) → position p xs ≡ None → slice_get xs k ≡ Some x → p x ≡ false
position_none p xs k x none there =
    let end : length xs ≤ position_or_len p xs = ltb-false (position_or_len p xs) (length xs) (none_below (nat_lt (position_or_len p xs) (length xs)) (position_or_len p xs) none) in
    let within : k < length xs = slice_get_within xs k x there in
    ap p (sym (get_or_from_slice_get xs k x x there)) ∙ fails_before_first p xs k x (omega (arith, end, within))

-- ---- one more

-- what stands before the end stands there still
pub get_kept : {X : Type 0} (xs ys : List X) (i : ℕ) (x : X) → slice_get xs i ≡ Some x → slice_get (xs ++ ys) i ≡ Some x
get_kept [] ys i x is = absurd cc
get_kept (y ∷ xs) ys zero x is = is
get_kept (y ∷ xs) ys (suc i) x is = get_kept xs ys i x is

-- what stands before the end stood there
pub get_back : {X : Type 0} (xs ys : List X) (i : ℕ) (x : X) → i < length xs → slice_get (xs ++ ys) i ≡ Some x → slice_get xs i ≡ Some x
get_back [] ys i x within is = absurd (omega (arith, within))
get_back (y ∷ xs) ys zero x within is = is
get_back (y ∷ xs) ys (suc i) x within is = get_back xs ys i x (omega (arith, within)) is

-- the new one
pub get_last : {X : Type 0} (xs : List X) (y : X) → slice_get (xs ++ y ∷ []) (length xs) ≡ Some y
get_last [] y = refl
get_last (x ∷ xs) y = get_last xs y

-- each place is one from before, or the new one
pub get_cases : {X : Type 0} (xs : List X) (y : X) (i : ℕ) (x : X) → slice_get (xs ++ y ∷ []) i ≡ Some x → (i < length xs) ⊎ ((i ≡ length xs) × (x ≡ y))
get_cases xs y i x is =
    let within : i < length (xs ++ y ∷ []) = slice_get_within (xs ++ y ∷ []) i x is in
    let counted : length (xs ++ y ∷ []) ≡ length xs + 1 = length-append xs (y ∷ []) in
    elim (cases_lt i (length xs)) [
      | inl below ↦ inl below
      | inr above ↦ let here : i ≡ length xs = omega (arith, within, counted, above) in
          let there : slice_get (xs ++ y ∷ []) (length xs) ≡ Some x = subst (λ (k : ℕ). slice_get (xs ++ y ∷ []) k ≡ Some x) here is in
          let last : slice_get (xs ++ y ∷ []) (length xs) ≡ Some y = get_last xs y in
          inr (here, cc)
    ]

-- a front of what stands before the end
pub take_before : {X : Type 0} (xs : List X) (y : X) (i : ℕ) → i ≤ length xs → take i (xs ++ y ∷ []) ≡ take i xs
take_before xs y i within = take-append-le i xs (y ∷ []) within

-- all that stands before the end
pub take_all_before : {X : Type 0} (xs : List X) (y : X) → take (length xs) (xs ++ y ∷ []) ≡ xs
take_all_before xs y = take_at xs (y ∷ []) (length xs) refl

-- an element of a list and one more is one of the list, or the new one
pub snoc_cases : {X : Type 0} (xs ys zs : List X) (x y : X) → xs ++ x ∷ [] ≡ ys ++ y ∷ zs → ((ys ≡ xs) × (y ≡ x)) ⊎ ((rest : List X) × (xs ≡ ys ++ y ∷ rest))
snoc_cases [] [] zs x y same = inl (refl, cc)
snoc_cases [] (w ∷ ys) zs x y same = absurd (let long = ap length same in omega (arith, long, length-append ys (y ∷ zs)))
snoc_cases (v ∷ xs) [] zs x y same = inr (xs, (let head : v ≡ y = cc in ap (λ (u : _). u ∷ xs) head))
snoc_cases (v ∷ xs) (w ∷ ys) zs x y same =
    let head : v ≡ w = cc in
    let tail : xs ++ x ∷ [] ≡ ys ++ y ∷ zs = cc in
    elim (snoc_cases xs ys zs x y tail) [
      | inl last ↦ inl ((let rest = last.0 in cc), last.1)
      | inr inner ↦ inr (inner.0, (let rest = inner.1 in cc))
    ]

-- a front, and the element behind it
pub take_with_next : {X : Type 0} (xs : List X) (n : ℕ) (x : X) → slice_get xs n ≡ Some x → take (suc n) xs ≡ take n xs ++ x ∷ []
take_with_next [] n x is = absurd cc
take_with_next (y ∷ xs) zero x is = let same : y ≡ x = cc in cc
take_with_next (y ∷ xs) (suc n) x is = let later = take_with_next xs n x is in cc

-- the same of a place that is counted on
pub take_one_more : {X : Type 0} (xs : List X) (n : ℕ) (x : X) → slice_get xs n ≡ Some x → take (n + 1) xs ≡ take n xs ++ x ∷ []
take_one_more xs n x is = rw add-one (take_with_next xs n x is)

-- ---- tables

-- what two tests that agree find
pub found_alike : {K V : Type 0} (test other : K → Bool) (es : List (K × V)) → ((k : K) → test k ≡ other k) → lookup test es ≡ lookup other es
found_alike test other [] same = refl
found_alike test other (e ∷ es) same = rw (same e.0, found_alike test other es same) refl
