-- The pages of a file by their places: those in the list, and far ones.
use Rattle.std.proofs.Common.{◌≡◌, ℕ, zero, suc, ◌+◌, ◌-◌, ◌<◌, ◌≤◌, true, false, cond, Bor, Option, Some, None, List, [], ◌∷◌, ◌++◌, length, take, drop, set, get_or, inl, inr, refl, sym, ap, subst, ◌∙◌, arith}
use Rattle.std.proofs.lemmas.List.{length-take, get_or-take, get_or_past, length-set, get_or-set_same, get_or-set_other, get_or_append_left, get_or_push, length_push, get_or_default}
use Rattle.std.proofs.lemmas.Bool.{cases_lt, cases_eq, lt-ltb, le-ltb, ltb-true, ltb-false, false≢true}
use Rattle.std.proofs.lemmas.Bool.Decides.{nat_tests}
use Rattle.std.specs.List.{All}
use Rattle.std.specs.Cmp.{Equal-is}
use Rattle.std.specs.FinMap.{nat_cmp-IsAntisymmetric}
use Rattle.std.specs.BTreeMap.{BTreeMap, is_at, IsUnchanged, Updates, IsUpperBound}
use Rattle.std.specs.Ordering.{is_gt, is_lt, nat_cmp}
use Rattle.std.specs.Slice.{IsItemAt}
use Rattle.std.specs.Option.{unwrap_or, option_copied, IsSome, IfSome, IfNone}
use Rattle.fa_store.specs.parts.PageParts.{PagesShown, only_page, with_part, has_far, far_page, page_of, IsPart, IsSet, IsGrown, SameBytes}
use Rattle.fa_store.proofs.CallerLemmas.{found_among}

-- ---- which pages there are

pub page_near : (pages : PagesShown) (k : ℕ) → k < length pages.near → page_of pages k ≡ get_or pages.near k []
unfolding page_of
page_near pages k near = rw (lt-ltb k (length pages.near) near) refl

pub page_far : (pages : PagesShown) (k : ℕ) → length pages.near ≤ k → page_of pages k ≡ far_page pages.far k
unfolding page_of
page_far pages k far = rw (le-ltb k (length pages.near) far) refl

-- where the list is the same, so are its pages
pub near_kept : (now before : PagesShown) → now.near ≡ before.near → (k : ℕ) → k < length now.near → page_of now k ≡ page_of before k
near_kept now before same k near =
    let long : length now.near ≡ length before.near = ap length same in
    page_near now k near ∙ (ap (λ l. get_or l k []) same ∙ sym (page_near before k (omega (arith, long, near))))

pub far_none : (k : ℕ) → far_page [] k ≡ []
unfolding far_page
far_none k = refl

pub far_is : (far : List (ℕ × List ℕ)) (k : ℕ) → far_page far k ≡ unwrap_or (has_far far k) []
unfolding far_page
far_is far k = refl

-- one page alone
pub only_here : (page : List ℕ) → page_of (only_page page) 0 ≡ page
only_here page = page_near (only_page page) 0 (omega arith)

pub only_others : (page : List ℕ) (k : ℕ) → (k ≡ 0 → ⊥) → page_of (only_page page) k ≡ []
only_others page k other = page_far (only_page page) k (omega (arith, other)) ∙ far_none k

-- ---- the same bytes

-- where one page is other, and has the same bytes
pub set_same : (now before : ℕ → List ℕ) (place : ℕ) (page : List ℕ) → IsSet now before place page
    → ((i : ℕ) → get_or page i 0 ≡ get_or (before place) i 0) → SameBytes now before
set_same now before place page is same k at = elim (cases_eq k place) [
  | inl here ↦
      ap (λ n. get_or (now n) at 0) here
      ∙ (ap (λ p. get_or p at 0) is.here ∙ (same at ∙ sym (ap (λ n. get_or (before n) at 0) here)))
  | inr other ↦ ap (λ p. get_or p at 0) (is.others k other)
]

pub grown_same : (now before : ℕ → List ℕ) (place : ℕ) → IsGrown now before place → SameBytes now before
grown_same now before place grown k at = elim (cases_eq k place) [
  | inl here ↦ ap (λ n. get_or (now n) at 0) here ∙ (grown.same at ∙ sym (ap (λ n. get_or (before n) at 0) here))
  | inr other ↦ ap (λ p. get_or p at 0) (grown.others k other)
]

-- a list as long with the same bytes, and far pages with the same bytes
pub parts_same : (now before : PagesShown) → length now.near ≡ length before.near
    → SameBytes (λ k. get_or now.near k []) (λ k. get_or before.near k []) → SameBytes (far_page now.far) (far_page before.far)
    → SameBytes (page_of now) (page_of before)
parts_same now before long near far k at = elim (cases_lt k (length now.near)) [
  | inl close ↦
      ap (λ p. get_or p at 0) (page_near now k close)
      ∙ (near k at ∙ sym (ap (λ p. get_or p at 0) (page_near before k (omega (arith, long, close)))))
  | inr back ↦
      ap (λ p. get_or p at 0) (page_far now k back)
      ∙ (far k at ∙ sym (ap (λ p. get_or p at 0) (page_far before k (omega (arith, long, back)))))
]

-- a list that goes on over places that have no far page
pub longer_same : (now before : PagesShown) → now.far ≡ before.far → length before.near ≤ length now.near
    → SameBytes (λ k. get_or now.near k []) (λ k. get_or before.near k [])
    → ((k : ℕ) → length before.near ≤ k → k < length now.near → far_page before.far k ≡ [])
    → SameBytes (page_of now) (page_of before)
longer_same now before far long near free k at = elim (cases_lt k (length now.near)) [
  | inl close ↦
      ap (λ p. get_or p at 0) (page_near now k close)
      ∙ (near k at
      ∙ ap (λ p. get_or p at 0) (elim (cases_lt k (length before.near)) [
        | inl old ↦ sym (page_near before k old)
        | inr new ↦ get_or_past before.near k [] new ∙ (sym (free k new close) ∙ sym (page_far before k new))
      ]))
  | inr back ↦
      ap (λ p. get_or p at 0)
      (page_far now k back ∙ (ap (λ f. far_page f k) far ∙ sym (page_far before k (omega (arith, long, back)))))
]

-- a list without its last page, which stored nothing, where no far one is at its place
pub popped_same : (near : List (List ℕ)) (far : List (ℕ × List ℕ)) → 0 < length near → get_or near (length near - 1) [] ≡ [] → far_page far (length near - 1) ≡ []
    → SameBytes (page_of (record { near = take (length near - 1) near; far = far })) (page_of (record { near = near; far = far }))
popped_same near far some last free k at = ap (λ p. get_or p at 0) (elim (cases_lt k (length near - 1)) [
  | inl front ↦
      page_near now k (omega (arith, short, front))
      ∙ (get_or-take (length near - 1) near k [] front ∙ sym (page_near before k (omega (arith, front))))
  | inr behind ↦
      page_far now k (omega (arith, short, behind))
      ∙ elim (cases_eq k (length near - 1)) [
        | inl here ↦ rw here (free ∙ (sym last ∙ sym (page_near before (length near - 1) (omega (arith, some)))))
        | inr other ↦ sym (page_far before k (omega (arith, some, behind, other)))
      ]
]) where
  now : PagesShown
  now = record { near = take (length near - 1) near; far = far }

  before : PagesShown
  before = record { near = near; far = far }

  short : length (take (length near - 1) near) ≡ length near - 1
  short = simp length-take (omega arith)

-- ---- a page of the list, or a far one, that is other

pub near_set : (now before : PagesShown) (place : ℕ) (page : List ℕ) → place < length before.near
    → now.near ≡ set before.near place page → now.far ≡ before.far → IsSet (page_of now) (page_of before) place page
near_set now before place page there is far = record {
  here =
      page_near now place (omega (arith, long, there))
      ∙ (ap (λ l. get_or l place []) is ∙ get_or-set_same before.near place page [] there);
  others = λ k other. elim (cases_lt k (length before.near)) [
    | inl close ↦
        page_near now k (omega (arith, long, close))
        ∙ (ap (λ l. get_or l k []) is ∙ (get_or-set_other before.near place k page [] other ∙ sym (page_near before k close)))
    | inr back ↦
        page_far now k (omega (arith, long, back)) ∙ (ap (λ f. far_page f k) far ∙ sym (page_far before k back))
  ];
} where
  long : length now.near ≡ length before.near
  long = ap length is ∙ length-set before.near place page

pub far_set : (now before : PagesShown) (place : ℕ) (page : List ℕ) → length before.near ≤ place → now.near ≡ before.near
    → IsSet (far_page now.far) (far_page before.far) place page → IsSet (page_of now) (page_of before) place page
far_set now before place page far near is = record {
  here = page_far now place (omega (arith, long, far)) ∙ is.here;
  others = λ k other. elim (cases_lt k (length before.near)) [
    | inl close ↦ near_kept now before near k (omega (arith, long, close))
    | inr back ↦ page_far now k (omega (arith, long, back)) ∙ (is.others k other ∙ sym (page_far before k back))
  ];
} where
  long : length now.near ≡ length before.near
  long = ap length near

-- a page that is set to what it is: where it is not there, and nothing is put there
pub set_none : (pages : ℕ → List ℕ) (place : ℕ) (page : List ℕ) → page ≡ pages place → IsSet pages pages place page
set_none pages place page is = record { here = sym is; others = λ k other. refl }

-- a page that is set has grown
pub set_grown : (now before : ℕ → List ℕ) (place : ℕ) (page : List ℕ) → IsSet now before place page
    → ((i : ℕ) → get_or page i 0 ≡ get_or (before place) i 0) → length (before place) ≤ length page → IsGrown now before place
set_grown now before place page is same kept = record {
  same = λ i. ap (λ p. get_or p i 0) is.here ∙ same i;
  kept = rw is.here kept;
  others = is.others;
}

-- ---- far pages, as their map has them

at_same : (k : ℕ) → is_at (nat_cmp k) k ≡ true
at_same k = grind (arith, nat_tests)

at_other : (k q : ℕ) → (q ≡ k → ⊥) → is_at (nat_cmp k) q ≡ false
at_other k q other = grind (arith, nat_tests)

-- what the map has at one place is other
pub far_updated : (now before : List (ℕ × List ℕ)) (place : ℕ) (w : Option (List ℕ))
    → ((q : ℕ) → has_far now q ≡ cond (is_at (nat_cmp place) q) w (has_far before q)) → IsSet (far_page now) (far_page before) place (unwrap_or w [])
far_updated now before place w is = record {
  here =
      let there : has_far now place ≡ w = is place ∙ ap (λ b. cond b w (has_far before place)) (at_same place) in
      far_is now place ∙ ap (λ o. unwrap_or o []) there;
  others = λ k other.
      let there : has_far now k ≡ has_far before k = is k ∙ ap (λ b. cond b w (has_far before k)) (at_other place k other) in
      far_is now k ∙ (ap (λ o. unwrap_or o []) there ∙ sym (far_is before k));
}

pub far_there : (far : List (ℕ × List ℕ)) (place : ℕ) (page : List ℕ) → has_far far place ≡ Some page → far_page far place ≡ page
far_there far place page there = far_is far place ∙ ap (λ o. unwrap_or o []) there

pub far_absent : (far : List (ℕ × List ℕ)) (place : ℕ) → has_far far place ≡ None → far_page far place ≡ []
far_absent far place absent = far_is far place ∙ ap (λ o. unwrap_or o []) absent

-- ---- a page that stores nothing

pub take_none : (n : ℕ) → take {A = ℕ} n [] ≡ []
take_none zero = refl
take_none (suc n) = refl

drop_none : (n : ℕ) → drop {A = ℕ} n [] ≡ []
drop_none zero = refl
drop_none (suc n) = refl

pub part_none : (at : ℕ) (part : List ℕ) → at + length part ≤ 0 → with_part [] at part ≡ []
part_none at [] fits = ap (λ l. l ++ ([] ++ drop (at + length {A = ℕ} []) [])) (take_none at) ∙ drop_none (at + length {A = ℕ} [])
part_none at (first ∷ part) fits = absurd (omega arith)

-- ---- the last far page, and the first

not_above : (last k : ℕ) → is_lt (nat_cmp last k) ≡ false → k ≤ last
not_above last k told = grind (arith, nat_tests)

-- behind the last place no page is there
pub none_above : (far : List (ℕ × List ℕ)) (last k : ℕ) → ((q : ℕ) → IsSome (has_far far q) → is_lt (nat_cmp last q) ≡ false) → last < k → far_page far k ≡ []
none_above far last k greatest above = at (has_far far k) refl where
  at : (o : Option (List ℕ)) → has_far far k ≡ o → far_page far k ≡ []
  at None is = far_absent far k is
  at (Some page) is =
      let within : k ≤ last = not_above last k (greatest k (rw is refl)) in
      absurd (omega arith)

not_below : (first k : ℕ) → is_gt (nat_cmp first k) ≡ false → first ≤ k
not_below first k told = grind (arith, nat_tests)

-- in front of the first place no page is there
pub none_below : (far : List (ℕ × List ℕ)) (first k : ℕ) → ((q : ℕ) → IsSome (has_far far q) → is_gt (nat_cmp first q) ≡ false) → k < first → far_page far k ≡ []
none_below far first k least below = at (has_far far k) refl where
  at : (o : Option (List ℕ)) → has_far far k ≡ o → far_page far k ≡ []
  at None is = far_absent far k is
  at (Some page) is =
      let within : first ≤ k = not_below first k (least k (rw is refl)) in
      absurd (omega arith)

-- where the last page is taken away, and one is there from a place on, all in front of that place stay
pub popped_front : (m n : BTreeMap ℕ (List ℕ)) (result : Option (ℕ × List ℕ)) → IfNone result (IsUnchanged m n)
    → IfSome result (λ p. Updates nat_cmp m n p.0 None) → IfSome result (λ p. IsUpperBound nat_cmp m p.0)
    → (place j : ℕ) → place ≤ j → IsSome (has_far m.entries j) → (k : ℕ) → k < place → far_page n.entries k ≡ far_page m.entries k
popped_front m n None same updates greatest place j from there k front = ap (λ far. far_page far k) same
popped_front m n (Some p) same updates greatest place j from there k front =
    let last : j ≤ p.0 = not_above p.0 j (greatest j there) in
    let popped = far_updated n.entries m.entries p.0 None updates.0 in
    popped.others k (λ here. omega (arith, last, here))

-- there are no entries
pub no_entries : (far : List (ℕ × List ℕ)) → (0 < length far → false ≡ true) → far ≡ []
no_entries [] none = refl
no_entries (first ∷ far) none = absurd (false≢true (none (omega arith)))

-- ---- the list

-- a page that has the same bytes as the one in whose place it stands
pub list_alike : (near : List (List ℕ)) (place : ℕ) (page : List ℕ) → place < length near
    → ((i : ℕ) → get_or page i 0 ≡ get_or (get_or near place []) i 0) → SameBytes (λ k. get_or (set near place page) k []) (λ k. get_or near k [])
list_alike near place page within same k at = elim (cases_eq k place) [
  | inl here ↦
      rw here (ap (λ p. get_or p at 0) (get_or-set_same near place page [] within) ∙ same at)
  | inr other ↦ ap (λ p. get_or p at 0) (get_or-set_other near place k page [] other)
]

-- one more page, that stores nothing
pub list_longer : (near : List (List ℕ)) (k : ℕ) → get_or (near ++ [] ∷ []) k [] ≡ get_or near k []
list_longer near k = elim (cases_lt k (length near)) [
  | inl within ↦ get_or_append_left near ([] ∷ []) [] k within
  | inr behind ↦ elim (cases_eq k (length near)) [
    | inl last ↦ get_or_push near [] [] k (sym last) ∙ sym (get_or_past near k [] behind)
    | inr past ↦
        let size = length_push near [] in
        get_or_past (near ++ [] ∷ []) k [] (omega arith) ∙ sym (get_or_past near k [] behind)
  ]
]

-- a far page that has grown
pub far_grown : (now before : PagesShown) (place : ℕ) → length before.near ≤ place → now.near ≡ before.near
    → IsGrown (far_page now.far) (far_page before.far) place → IsGrown (page_of now) (page_of before) place
far_grown now before place far near is =
    let put = far_set now before place (far_page now.far place) far near (record { here = refl; others = is.others }) in
    let was = page_far before place far in
    set_grown (page_of now) (page_of before) place (far_page now.far place) put
    (λ i. is.same i ∙ sym (ap (λ p. get_or p i 0) was)) (rw was is.kept)

-- one page alone that is other
pub only_set : (before page : List ℕ) → IsSet (page_of (only_page page)) (page_of (only_page before)) 0 page
only_set before page = record {
  here = only_here page;
  others = λ k other. only_others page k other ∙ sym (only_others before k other);
}

-- what a look-up in the list finds
pub near_found : (near : List (List ℕ)) (place : ℕ) (found : Option (Bor (List ℕ))) → IsItemAt near place found → unwrap_or (option_copied found) [] ≡ get_or near place []
near_found near place None told = sym (get_or_past near place [] (ltb-false place (length near) (sym told.0)))
near_found near place (Some x) told =
    let within : place < length near = ltb-true place (length near) (sym told.0) in
    told.1 ∙ get_or_default near place x.now [] within

-- ---- pages within others

none_within : (page : List ℕ) → IsPart page 0 []
none_within page i less = absurd (omega (arith, less))

-- one page by itself is within others
pub one_within : (page : List ℕ) (other : ℕ → List ℕ) → IsPart (other 0) 0 page → (place : ℕ) → IsPart (other place) 0 (page_of (only_page page) place)
one_within page other here place = elim (cases_eq place 0) [
  | inl first ↦ subst (λ k. IsPart (other k) 0 (page_of (only_page page) k)) (sym first) (subst (IsPart (other 0) 0) (sym (only_here page)) here)
  | inr apart ↦ subst (IsPart (other place) 0) (sym (only_others page place apart)) (none_within (other place))
]

-- and so are more, of which those of the list are and the far ones
pub many_within : (pages : PagesShown) (other : ℕ → List ℕ) → ((place : ℕ) → IsPart (other place) 0 (get_or pages.near place []))
    → ((place : ℕ) → IsPart (other place) 0 (far_page pages.far place)) → (place : ℕ) → IsPart (other place) 0 (page_of pages place)
many_within pages other near far place = elim (cases_lt place (length pages.near)) [
  | inl less ↦ subst (IsPart (other place) 0) (sym (page_near pages place less)) (near place)
  | inr more ↦ subst (IsPart (other place) 0) (sym (page_far pages place more)) (far place)
]

pub far_within : (far : List (ℕ × List ℕ)) (other : ℕ → List ℕ) → All (λ e. IsPart (other e.0) 0 e.1) far → (place : ℕ) → IsPart (other place) 0 (far_page far place)
far_within far other all place = by (has_far far place) refl
  where
    by : (found : Option (List ℕ)) → has_far far place ≡ found → IsPart (other place) 0 (far_page far place)
    by None was = subst (IsPart (other place) 0) (sym (far_absent far place was)) (none_within (other place))
    by (Some page) was =
        let at = found_among (λ e. IsPart (other e.0) 0 e.1) (is_at (nat_cmp place)) far all page was in
        let same : place ≡ at.0 = nat_cmp-IsAntisymmetric place at.0 ((Equal-is (nat_cmp place at.0)).0 at.1) in
        subst (IsPart (other place) 0) (sym (far_there far place page was)) (subst (λ k. IsPart (other k) 0 page) (sym same) at.2)
