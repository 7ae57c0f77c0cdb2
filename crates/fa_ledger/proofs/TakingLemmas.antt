-- Lookups that are taken back item by item.
use Rattle.std.proofs.Math.Seq.{take-append_seam}
use Rattle.std.proofs.Common.{append_assoc, ◌≡◌, ◌≢◌, ℕ, zero, suc, ◌+◌, ◌-◌, ◌<◌, ◌≤◌, ◌⊎◌, Bool, true, false, cond, List, [], ◌∷◌, ◌++◌, length, take, Option, None, Some, refl, sym, ap, subst, ◌∙◌, inl, inr, arith}
use Rattle.std.specs.Prelude.{◌==◌, if◌then◌else◌, nat_eq, not}
use Rattle.std.specs.Map.{lookup}
use Rattle.std.proofs.lemmas.Bool.Decides.{nat_tests}
use Rattle.std.proofs.lemmas.List.Elements.{filter-append}
use Rattle.std.proofs.lemmas.List.{append-nil}
use Rattle.fa_capture.proofs.CallerLemmas.{snoc_cases}
use Rattle.fa_bodies.specs.declared.requests.TheConstants.{ROOT_ID}
use Rattle.fa_ledger.specs.declared.nodes.Lookups.{Lookups}
use Rattle.fa_ledger.specs.Counts.{total_taken}
use Rattle.fa_ledger.proofs.NameLemmas.{not_root}
use Rattle.fa_ledger.proofs.NodeLemmas.{root_or_not}
use Rattle.fa_ledger.specs.parts.Steps.{lowered, raised, left_over, count_left, but_root, AreWithin, IsTakenFrom, IsDropped}

-- items that took no more than was left, and what the table has of each node then
pub record AreLowered (front : List (ℕ × ℕ)) (old now : List (ℕ × Lookups)) : Type 0 where
  pub within : AreWithin old (but_root front)
  pub fewer : (node : ℕ) → total_taken node (but_root front) ≤ count_left (lookup (nat_eq node) old)
  pub lowered : (node : ℕ) → lookup (nat_eq node) now ≡ lowered (total_taken node (but_root front)) (lookup (nat_eq node) old)

-- ---- sums

pub total_both : (node : ℕ) (xs ys : List (ℕ × ℕ)) → total_taken node (xs ++ ys) ≡ total_taken node xs + total_taken node ys
total_both node [] ys = omega arith
total_both node (x ∷ xs) ys = let later = total_both node xs ys in omega (arith, later)

-- what items take, with one more behind them
pub total_more : (node : ℕ) (front : List (ℕ × ℕ)) (x : ℕ × ℕ) → total_taken node (but_root (front ++ x ∷ [])) ≡ total_taken node (but_root front) + total_taken node (but_root (x ∷ []))
total_more node front x =
    ap (total_taken node) (filter-append (λ item. not (item.0 == ROOT_ID)) front (x ∷ [])) ∙ total_both node (but_root front) (but_root (x ∷ []))

-- an item of the root is left out, and any other stands
root_out : (id n : ℕ) → id ≡ ROOT_ID → but_root ((id, n) ∷ []) ≡ []
root_out id n is = let test : (id == ROOT_ID) ≡ true = grind (arith, nat_tests, is) in rw test refl

other_in : (id n : ℕ) → id ≢ ROOT_ID → but_root ((id, n) ∷ []) ≡ (id, n) ∷ []
other_in id n other = let test : (id == ROOT_ID) ≡ false = not_root id other in rw test refl

-- what an item takes of its node, and of others
total_own : (id n : ℕ) → total_taken id ((id, n) ∷ []) ≡ n
total_own id n = let test : (id == id) ≡ true = grind (arith, nat_tests) in rw test (omega arith)

total_other : (id n node : ℕ) → id ≢ node → total_taken node ((id, n) ∷ []) ≡ 0
total_other id n node other = let test : (id == node) ≡ false = grind (arith, nat_tests, other) in rw test refl

-- ---- nodes with fewer lookups

same_lookups : (l m : Lookups) → l.count ≡ m.count → l.by ≡ m.by → l ≡ m
same_lookups l m counts bys =
    let made : ℕ → ℕ → Lookups = λ c b. record { count = c; by = b } in
    let whole : made l.count l.by ≡ made m.count m.by = rw (counts, bys) refl in
    whole

lowered_none : (x : Option Lookups) → lowered 0 x ≡ x
lowered_none None = refl
lowered_none (Some l) = ap (λ m. Some m) (same_lookups (record { count = l.count - 0; by = l.by }) l (omega arith) refl)

lowered_twice : (m n : ℕ) (x : Option Lookups) → lowered n (lowered m x) ≡ lowered (m + n) x
lowered_twice m n None = refl
lowered_twice m n (Some l) = ap (λ k. Some k) (same_lookups (record { count = l.count - m - n; by = l.by }) (record { count = l.count - (m + n); by = l.by }) (omega arith) refl)

pub count_lowered : (n : ℕ) (x : Option Lookups) → count_left (lowered n x) ≡ count_left x - n
count_lowered n None = omega arith
count_lowered n (Some l) = refl

pub count_raised : (n : ℕ) (x : Option Lookups) → count_left (raised n x) ≤ count_left x + n
count_raised n None = omega arith
count_raised n (Some l) = omega arith

raised_twice : (m n : ℕ) (x : Option Lookups) → raised n (raised m x) ≡ raised (m + n) x
raised_twice m n None = refl
raised_twice m n (Some l) = ap (λ k. Some k) (same_lookups (record { count = l.count + m + n; by = l.by }) (record { count = l.count + (m + n); by = l.by }) (omega arith) refl)

-- two numbers are the same or not
same_or_not : (m n : ℕ) → (m ≡ n) ⊎ (m ≢ n)
same_or_not m n =
    elim (m == n) as (λ b. (m == n) ≡ b → (m ≡ n) ⊎ (m ≢ n)) [
      | true ↦ λ test. inl (grind (arith, nat_tests, test))
      | false ↦ λ test. inr (λ same. grind (arith, nat_tests, test, same))
    ] refl

-- ---- items one after the other

-- one item more of a walk
pub moved_on : {X : Type 0} (all front left rest : List X) (x : X) → all ≡ front ++ left → left ≡ x ∷ rest → all ≡ (front ++ x ∷ []) ++ rest
moved_on all front left rest x is next = is ∙ ap (λ ys. front ++ ys) next ∙ sym (append_assoc front (x ∷ []) rest)

-- the items so far are the first ones
pub first_ones : {X : Type 0} (all front left : List X) (n : ℕ) → all ≡ front ++ left → length front ≡ n → take n all ≡ front
first_ones all front left n is long = ap (λ k. take k all) (sym long) ∙ ap (take (length front)) is ∙ take-append_seam front left

-- the front of a list that has the first n is a front of these
first_of : {X : Type 0} (front rest : List X) (x : X) (n : ℕ) → length front < n → (more : List X) × (take n (front ++ x ∷ rest) ≡ front ++ x ∷ more)
first_of [] rest x zero long = absurd (omega (arith, long))
first_of [] rest x (suc n) long = (take n rest, refl)
first_of (y ∷ front) rest x zero long = absurd (omega (arith, long))
first_of (y ∷ front) rest x (suc n) long = let found = first_of front rest x n (omega (arith, long)) in (found.0, ap (λ zs. y ∷ zs) found.1)

-- more items than those so far begin with these and the next
first_more : {X : Type 0} (all front rest : List X) (x : X) (n : ℕ) → all ≡ front ++ x ∷ rest → length front < n → (more : List X) × (take n all ≡ front ++ x ∷ more)
first_more all front rest x n is long = let found = first_of front rest x n long in (found.0, ap (take n) is ∙ found.1)

pub no_item : {X : Type 0} (earlier : List X) (y : X) (later : List X) → [] ≡ earlier ++ y ∷ later → ⊥
no_item [] y later is = absurd cc
no_item (e ∷ earlier) y later is = absurd cc

pub none_lowered : (old : List (ℕ × Lookups)) → AreLowered [] old old
none_lowered old = record {
  within = λ earlier later node nlookup is. absurd (no_item earlier (node, nlookup) later is);
  fewer = λ node. omega arith;
  lowered = λ node. sym (lowered_none (lookup (nat_eq node) old));
}

-- one more item that takes no more than is left
pub one_lowered : (front : List (ℕ × ℕ)) (old mid now : List (ℕ × Lookups)) (id n : ℕ) → AreLowered front old mid
    → (id ≢ ROOT_ID → n ≤ count_left (lookup (nat_eq id) mid))
    → ((node : ℕ) → lookup (nat_eq node) now ≡ lowered (total_taken node (but_root ((id, n) ∷ []))) (lookup (nat_eq node) mid))
    → AreLowered (front ++ (id, n) ∷ []) old now
one_lowered front old mid now id n are within wrote =
    let parts : but_root (front ++ (id, n) ∷ []) ≡ but_root front ++ but_root ((id, n) ∷ []) = filter-append (λ item. not (item.0 == ROOT_ID)) front ((id, n) ∷ []) in
    let left : (node : ℕ) → count_left (lookup (nat_eq node) mid) ≡ count_left (lookup (nat_eq node) old) - total_taken node (but_root front) =
    (λ node. ap count_left (are.lowered node) ∙ count_lowered (total_taken node (but_root front)) (lookup (nat_eq node) old)) in
    elim (root_or_not id) [
      | inl root ↦
          let none = root_out id n root in
          let same : but_root (front ++ (id, n) ∷ []) ≡ but_root front = parts ∙ ap (λ ys. but_root front ++ ys) none ∙ append-nil (but_root front) in
          record {
            within = subst (AreWithin old) (sym same) are.within;
            fewer = λ node. subst (λ items. total_taken node items ≤ count_left (lookup (nat_eq node) old)) (sym same) (are.fewer node);
            lowered = λ node.
                wrote node ∙ ap (λ items. lowered (total_taken node items) (lookup (nat_eq node) mid)) none ∙ lowered_none (lookup (nat_eq node) mid) ∙ are.lowered node
                ∙ ap (λ items. lowered (total_taken node items) (lookup (nat_eq node) old)) (sym same);
          }
      | inr other ↦
          let stands = other_in id n other in
          let same : but_root (front ++ (id, n) ∷ []) ≡ but_root front ++ (id, n) ∷ [] = parts ∙ ap (λ ys. but_root front ++ ys) stands in
          let total : (node : ℕ) → total_taken node (but_root (front ++ (id, n) ∷ [])) ≡ total_taken node (but_root front) + total_taken node ((id, n) ∷ []) =
          (λ node. ap (total_taken node) same ∙ total_both node (but_root front) ((id, n) ∷ [])) in
          record {
            within = λ earlier later node nlookup is.
                elim (snoc_cases (but_root front) earlier later (id, n) (node, nlookup) (sym same ∙ is)) [
                  | inl last ↦
                      let ids : node ≡ id = ap (λ (y : ℕ × ℕ). y.0) last.1 in
                      let counts : nlookup ≡ n = ap (λ (y : ℕ × ℕ). y.1) last.1 in
                      let own : total_taken id (but_root front) + n ≤ count_left (lookup (nat_eq id) old) = omega (arith, within other, left id, are.fewer id) in
                      subst (λ k. total_taken k earlier + nlookup ≤ count_left (lookup (nat_eq k) old)) (sym ids)
                      (subst (λ items. total_taken id items + nlookup ≤ count_left (lookup (nat_eq id) old)) (sym last.0) (omega (arith, own, counts)))
                  | inr before ↦ are.within earlier before.0 node nlookup before.1
                ];
            fewer = λ node.
                elim (same_or_not id node) [
                  | inl is ↦
                      let own : total_taken id (but_root front) + n ≤ count_left (lookup (nat_eq id) old) = omega (arith, within other, left id, are.fewer id) in
                      subst (λ k. total_taken k (but_root (front ++ (id, n) ∷ [])) ≤ count_left (lookup (nat_eq k) old)) is (omega (arith, own, total id, total_own id n))
                  | inr differ ↦ omega (arith, are.fewer node, total node, total_other id n node differ)
                ];
            lowered = λ node.
                wrote node ∙ ap (λ items. lowered (total_taken node items) (lookup (nat_eq node) mid)) stands
                ∙ ap (lowered (total_taken node ((id, n) ∷ []))) (are.lowered node)
                ∙ lowered_twice (total_taken node (but_root front)) (total_taken node ((id, n) ∷ [])) (lookup (nat_eq node) old)
                ∙ ap (λ k. lowered k (lookup (nat_eq node) old)) (sym (total node));
          }
    ]

-- an item that takes more than is left
pub one_fails : (front rest : List (ℕ × ℕ)) (old mid : List (ℕ × Lookups)) (id n : ℕ) → AreLowered front old mid → id ≢ ROOT_ID
    → count_left (lookup (nat_eq id) mid) < n → AreWithin old (but_root (front ++ (id, n) ∷ rest)) → ⊥
one_fails front rest old mid id n are other over within =
    let test : (id == ROOT_ID) ≡ false = not_root id other in
    let behind : but_root ((id, n) ∷ rest) ≡ (id, n) ∷ but_root rest = rw test refl in
    let parts : but_root (front ++ (id, n) ∷ rest) ≡ but_root front ++ (id, n) ∷ but_root rest =
    filter-append (λ item. not (item.0 == ROOT_ID)) front ((id, n) ∷ rest) ∙ ap (λ ys. but_root front ++ ys) behind in
    let fits = within (but_root front) (but_root rest) id n parts in
    let left = ap count_left (are.lowered id) ∙ count_lowered (total_taken id (but_root front)) (lookup (nat_eq id) old) in
    omega (arith, fits, left, over)

-- ---- nodes of which nothing is left

left_over_again : (x : Option Lookups) → left_over (left_over x) ≡ left_over x
left_over_again None = refl
left_over_again (Some l) =
    elim (l.count == 0) as (λ b. l.count == 0 ≡ b → left_over (if b then None else Some l) ≡ (if b then None else Some l)) [
      | true ↦ λ is. refl
      | false ↦ λ is. rw is refl
    ] refl

either_over : (b : Bool) (x : Option Lookups) → cond b (left_over (left_over x)) (left_over x) ≡ left_over x
either_over true x = left_over_again x
either_over false x = refl

-- an item of another node takes nothing of this one
other_root : (id n node : ℕ) → id ≢ node → total_taken node (but_root ((id, n) ∷ [])) ≡ 0
other_root id n node other =
    elim (root_or_not id) [
      | inl root ↦ ap (total_taken node) (root_out id n root)
      | inr not_one ↦ ap (total_taken node) (other_in id n not_one) ∙ total_other id n node other
    ]

-- one more node is out of the table, where no lookup is left of it
pub one_dropped : (front : List (ℕ × ℕ)) (id n node : ℕ) (old mid now : Option Lookups) → IsDropped (total_taken node (but_root front)) old mid
    → now ≡ cond (nat_eq id node) (left_over mid) mid → IsDropped (total_taken node (but_root (front ++ (id, n) ∷ []))) old now
one_dropped front id n node old mid now (inl over) wrote = inl (wrote ∙ (rw over (either_over (nat_eq id node) old)))
one_dropped front id n node old mid now (inr stays) wrote =
    elim (same_or_not id node) [
      | inl is ↦
          let test : nat_eq id node ≡ true = grind (arith, nat_tests, is) in
          inl (wrote ∙ (rw (test, stays.0) refl))
      | inr other ↦
          let test : nat_eq id node ≡ false = grind (arith, nat_tests, other) in
          inr (wrote ∙ (rw (test, stays.0) refl), omega (arith, total_more node front (id, n), stays.1, other_root id n node other))
    ]

-- what is out of the table after lookups were taken is taken from it
pub taken_away : (n : ℕ) (x y : Option Lookups) → n ≤ count_left x → ((l : Lookups) → x ≡ Some l → 0 < l.count) → IsDropped n (lowered n x) y → IsTakenFrom n x y
taken_away n None y within some (inl over) = (omega (arith, within), over)
taken_away n None y within some (inr stays) = (stays.1, stays.0)
taken_away n (Some l) y within some (inl over) =
    elim (l.count - n == 0) as (λ b. (l.count - n == 0) ≡ b → y ≡ (if b then None else Some (record { count = l.count - n; by = l.by })) → IsTakenFrom n (Some l) y) [
      | true ↦ λ test gone. let none : l.count - n ≡ 0 = grind (arith, nat_tests, test) in rw gone (omega (arith, none, within))
      | false ↦ λ test left.
          let more : 0 < l.count - n = grind (arith, nat_tests, test) in
          rw left (more, omega (arith, within), refl)
    ] refl over
taken_away n (Some l) y within some (inr stays) =
    let more = some l refl in
    rw stays.0 (omega (arith, more, stays.1), omega (arith, stays.1), refl)

-- ---- giving back

-- there is room for one more item that is given back
pub one_fits : (all front rest : List (ℕ × ℕ)) (old now : List (ℕ × Lookups)) (id n done : ℕ) → all ≡ front ++ (id, n) ∷ rest → length front < done → id ≢ ROOT_ID
    → ((node : ℕ) → count_left (lookup (nat_eq node) old) + total_taken node (but_root (take done all)) < 18446744073709551616)
    → ((node : ℕ) → lookup (nat_eq node) now ≡ raised (total_taken node (but_root front)) (lookup (nat_eq node) old))
    → count_left (lookup (nat_eq id) now) + n < 18446744073709551616
one_fits all front rest old now id n done is below other fits gave =
    let found = first_more all front rest (id, n) done is below in
    let test : (id == ROOT_ID) ≡ false = not_root id other in
    let behind : but_root ((id, n) ∷ found.0) ≡ (id, n) ∷ but_root found.0 = rw test refl in
    let total : total_taken id (but_root (take done all)) ≡ total_taken id (but_root front) + total_taken id ((id, n) ∷ but_root found.0) =
    ap (λ xs. total_taken id (but_root xs)) found.1 ∙ ap (total_taken id) (filter-append (λ item. not (item.0 == ROOT_ID)) front ((id, n) ∷ found.0) ∙ ap (λ ys. but_root front ++ ys) behind)
    ∙ total_both id (but_root front) ((id, n) ∷ but_root found.0) in
    let own : total_taken id ((id, n) ∷ but_root found.0) ≡ n + total_taken id (but_root found.0) = let same : (id == id) ≡ true = grind (arith, nat_tests) in rw same refl in
    let now_count : count_left (lookup (nat_eq id) now) ≡ count_left (raised (total_taken id (but_root front)) (lookup (nat_eq id) old)) = ap count_left (gave id) in
    omega (arith, fits id, total, own, now_count, count_raised (total_taken id (but_root front)) (lookup (nat_eq id) old))

-- one more item is given back
pub one_raised : (front : List (ℕ × ℕ)) (id n node : ℕ) (old mid now : Option Lookups) → mid ≡ raised (total_taken node (but_root front)) old
    → now ≡ raised (total_taken node (but_root ((id, n) ∷ []))) mid → now ≡ raised (total_taken node (but_root (front ++ (id, n) ∷ []))) old
one_raised front id n node old mid now before wrote =
    wrote ∙ ap (raised (total_taken node (but_root ((id, n) ∷ [])))) before
    ∙ raised_twice (total_taken node (but_root front)) (total_taken node (but_root ((id, n) ∷ []))) old
    ∙ ap (λ k. raised k old) (sym (total_more node front (id, n)))
