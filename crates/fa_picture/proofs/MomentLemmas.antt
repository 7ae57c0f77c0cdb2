-- The moments of an order, an entry at a time.
use Rattle.std.proofs.Common.{◌≡◌, ◌≤◌, ◌<◌, ◌+◌, ◌⊎◌, inl, inr, ℕ, List, [], ◌∷◌, ◌++◌, length, get_or, max, refl, sym, ◌∙◌, arith, rules}
use Rattle.std.proofs.lemmas.Bool.{cases_lt}
use Rattle.std.proofs.lemmas.List.{get_or_append_left, get_or_push, length_push}
use Rattle.fa_order.specs.declared.entry.Entry.{Entry}
use Rattle.fa_picture.specs.Moments.{message_at, AreMoments}

-- so many first entries have their moments, and this is the last of these
pub record AreMomentsUpTo (entries : List Entry) (i : ℕ) (moments : List ℕ) (latest : ℕ) : Type 0 where
  pub each : length moments ≡ i
  pub not_before : (k : ℕ) → k < i → message_at entries k ≤ get_or moments k 0
  pub rising : (k : ℕ) → k + 1 < i → get_or moments k 0 ≤ get_or moments (k + 1) 0
  pub least : (k : ℕ) → k < i → (j : ℕ) × ((j ≤ k) × (get_or moments k 0 ≡ message_at entries j))
  pub last : (k : ℕ) → k < i → get_or moments k 0 ≤ latest
  pub told : (latest ≡ 0) ⊎ ((j : ℕ) × ((j < i) × (latest ≡ message_at entries j)))

-- none has
pub moments_none : (entries : List Entry) → AreMomentsUpTo entries 0 [] 0
moments_none entries = record {
  each = search rules;
  not_before = λ k few. absurd (omega (arith, few));
  rising = λ k few. absurd (omega (arith, few));
  least = λ k few. absurd (omega (arith, few));
  last = λ k few. absurd (omega (arith, few));
  told = inl refl;
}

-- the last one is that of an entry up to the next
told_next : (entries : List Entry) (i latest new : ℕ) → new ≡ max latest (message_at entries i)
    → ((latest ≡ 0) ⊎ ((j : ℕ) × ((j < i) × (latest ≡ message_at entries j)))) → (j : ℕ) × ((j ≤ i) × (new ≡ message_at entries j))
told_next entries i latest new is told = elim (cases_lt (message_at entries i) latest) [
  | inr above ↦ (i, (omega arith, omega (arith, is, above)))
  | inl below ↦ elim told [
    | inl zero ↦ absurd (omega (arith, below, zero))
    | inr (j, (before, same)) ↦ (j, (omega (arith, before), omega (arith, is, below, same)))
  ]
]

module _ (entries : List Entry) (i : ℕ) (moments : List ℕ) (latest new : ℕ) (is : new ≡ max latest (message_at entries i))
    (all : AreMomentsUpTo entries i moments latest) where
  before : (k : ℕ) → k < i → get_or (moments ++ new ∷ []) k 0 ≡ get_or moments k 0
  before k few = get_or_append_left moments (new ∷ []) 0 k (omega (arith, few, all.each))

  here : get_or (moments ++ new ∷ []) i 0 ≡ new
  here = get_or_push moments new 0 i all.each

  -- one more has
  pub moments_one : AreMomentsUpTo entries (i + 1) (moments ++ new ∷ []) new
  moments_one = record {
    each = omega (arith, length_push moments new, all.each);
    not_before = λ k few. elim (cases_lt k i) [
      | inl less ↦ omega (arith, before k less, all.not_before k less)
      | inr more ↦ let same : k ≡ i = omega (arith, few, more) in rw same (omega (arith, here, is))
    ];
    rising = λ k few. elim (cases_lt (k + 1) i) [
      | inl less ↦
          let early : k < i = omega (arith, less) in
          omega (arith, before k early, before (k + 1) less, all.rising k less)
      | inr more ↦
          let early : k < i = omega (arith, few) in
          let same : k + 1 ≡ i = omega (arith, few, more) in
          rw same (omega (arith, before k early, here, all.last k early, is))
    ];
    least = λ k few. elim (cases_lt k i) [
      | inl less ↦
          let (j, (up_to, told)) = all.least k less in
          (j, (up_to, before k less ∙ told))
      | inr more ↦
          let same : k ≡ i = omega (arith, few, more) in
          let (j, (up_to, told)) = told_next entries i latest new is all.told in
          (j, (omega (arith, up_to, same), rw same (here ∙ told)))
    ];
    last = λ k few. elim (cases_lt k i) [
      | inl less ↦ omega (arith, before k less, all.last k less, is)
      | inr more ↦ let same : k ≡ i = omega (arith, few, more) in rw same (omega (arith, here))
    ];
    told = let (j, (up_to, told)) = told_next entries i latest new is all.told in inr (j, (omega (arith, up_to), told));
  }

-- all have
pub moments_all : (entries : List Entry) (i : ℕ) (moments : List ℕ) (latest : ℕ) → length entries ≡ i → AreMomentsUpTo entries i moments latest → AreMoments entries moments
moments_all entries i moments latest end all = record {
  each = all.each ∙ sym end;
  not_before = λ k few. all.not_before k (omega (arith, few, all.each));
  rising = λ k few. all.rising k (omega (arith, few, all.each));
  least = λ k few. all.least k (omega (arith, few, all.each));
}
