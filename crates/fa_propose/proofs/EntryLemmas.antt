-- Lists of entries by ordered keys: they stay in order behind a change at one key, and which entries they have then.
use Rattle.std.proofs.Common.{◌≡◌, ◌⊎◌, Bool, true, false, cond, List, [], ◌∷◌, Ordering, Less, Equal, Greater, refl, sym, ap, subst, ◌∙◌, inl, inr, arith}
use Rattle.std.specs.Prelude.{Contains}
use Rattle.std.specs.BTreeMap.{insert_entry, is_at}
use Rattle.std.specs.Cmp.{IsTotalOrder}
use Rattle.std.specs.List.{AllByRecursion}
use Rattle.std.specs.List.Sorted.{IsStrictlySortedBy}
use Rattle.std.specs.Map.{keys_of, remove_entry}
use Rattle.std.specs.Ordering.{is_eq, match_ordering, ordering_reverse}
use Rattle.std.proofs.lemmas.Bool.{true≢false}
use Rattle.std.proofs.lemmas.Cmp.{eq_by_cmp_equiv}
use Rattle.std.proofs.lemmas.Map.Keys.{sorted_head, sorted_tail}
use Rattle.std.proofs.lemmas.Map.Lookups.{CmpEqualImpliesEq}
use Rattle.fa_capture.proofs.CallerLemmas.{contains_cases, contains_first, contains_behind}

-- ---- keys

module _ {K : Type 0} (R : K → K → Ordering) where
  -- this key is below all of them
  abbrev IsBelow : K → List K → Type 0
  IsBelow k ks = AllByRecursion (λ q. R k q ≡ Less) ks

  -- keys that ascend do so behind one that is below them
  sorted_more : (k : K) (ks : List K) → IsBelow k ks → IsStrictlySortedBy R ks → IsStrictlySortedBy R (k ∷ ks)
  unfolding IsStrictlySortedBy
  sorted_more k ks below sorted = (below, sorted)

  module _ (o : IsTotalOrder R) where
    -- what is below a key is below what that one is below
    below_more : (k q : K) (ks : List K) → R k q ≡ Less → IsBelow q ks → IsBelow k ks
    below_more k q [] less below = tt
    below_more k q (x ∷ ks) less below = (o.trans k q x less below.0, below_more k q ks less below.1)

    -- no key is below itself
    not_below : (k : K) → R k k ≡ Less → ⊥
    not_below k less = true≢false (sym ((eq_by_cmp_equiv o).refl k) ∙ ap is_eq less)

module _ {K X : Type 0} (R : K → K → Ordering) where
  -- ---- the order

  -- a key that is below all and below the new one
  below_inserted : (q k : K) (v : X) (es : List (K × X)) → R q k ≡ Less → IsBelow R q (keys_of es) → IsBelow R q (keys_of (insert_entry R es k v))
  below_inserted q k v [] new below = (new, tt)
  below_inserted q k v (e ∷ es) new below =
      elim (R k e.0) as (λ r. IsBelow R q (keys_of (match_ordering r ((k, v) ∷ e ∷ es) ((e.0, v) ∷ es) (e ∷ insert_entry R es k v)))) [
        | Less ↦ (new, below)
        | Equal ↦ below
        | Greater ↦ (below.0, below_inserted q k v es new below.1)
      ]

  -- a key that is below all stays so
  below_removed : (q : K) (test : K → Bool) (es : List (K × X)) → IsBelow R q (keys_of es) → IsBelow R q (keys_of (remove_entry test es))
  below_removed q test [] below = tt
  below_removed q test (e ∷ es) below = elim (test e.0) as (λ b. IsBelow R q (keys_of (cond b es (e ∷ remove_entry test es)))) [
    | true ↦ below.1
    | false ↦ (below.0, below_removed q test es below.1)
  ]

  -- keys ascend with a new one
  pub sorted_inserted : (o : IsTotalOrder R) (k : K) (v : X) (es : List (K × X)) → IsStrictlySortedBy R (keys_of es) → IsStrictlySortedBy R (keys_of (insert_entry R es k v))
  sorted_inserted o k v [] sorted = sorted_more R k [] tt sorted
  sorted_inserted o k v (e ∷ es) sorted =
      let head = sorted_head R e.0 (keys_of es) sorted in
      elim (R k e.0) as (λ r. R k e.0 ≡ r → IsStrictlySortedBy R (keys_of (match_ordering r ((k, v) ∷ e ∷ es) ((e.0, v) ∷ es) (e ∷ insert_entry R es k v)))) [
        | Less ↦ λ is. sorted_more R k (keys_of (e ∷ es)) (is, below_more R o k e.0 (keys_of es) is head) sorted
        | Equal ↦ λ is. sorted
        | Greater ↦ λ is.
            sorted_more R e.0 (keys_of (insert_entry R es k v)) (below_inserted e.0 k v es (o.antisymm e.0 k ∙ ap ordering_reverse is) head)
            (sorted_inserted o k v es (sorted_tail R e.0 (keys_of es) sorted))
      ] refl

  -- and without one of them
  pub sorted_removed : (test : K → Bool) (es : List (K × X)) → IsStrictlySortedBy R (keys_of es) → IsStrictlySortedBy R (keys_of (remove_entry test es))
  sorted_removed test [] sorted = sorted
  sorted_removed test (e ∷ es) sorted =
      let tail = sorted_tail R e.0 (keys_of es) sorted in
      elim (test e.0) as (λ b. IsStrictlySortedBy R (keys_of (cond b es (e ∷ remove_entry test es)))) [
        | true ↦ tail
        | false ↦ sorted_more R e.0 (keys_of (remove_entry test es)) (below_removed e.0 test es (sorted_head R e.0 (keys_of es) sorted)) (sorted_removed test es tail)
      ]

  -- what is put in below all comes first
  pub inserted_first : (k : K) (v : X) (es : List (K × X)) → IsStrictlySortedBy R (k ∷ keys_of es) → insert_entry R es k v ≡ (k, v) ∷ es
  inserted_first k v [] sorted = refl
  inserted_first k v (e ∷ es) sorted = ap (λ r. match_ordering r ((k, v) ∷ e ∷ es) ((e.0, v) ∷ es) (e ∷ insert_entry R es k v)) (sorted_head R k (keys_of (e ∷ es)) sorted).0

  -- ---- the entries

  -- the key of an entry is one of the keys
  entry_above : (k : K) (es : List (K × X)) → IsBelow R k (keys_of es) → (q : K) (x : X) → Contains es (q, x) → R k q ≡ Less
  entry_above k [] below q x has = absurd (omega (arith, has.1))
  entry_above k (e ∷ es) below q x has = elim (contains_cases e es (q, x) has) [
    | inl same ↦ subst (λ (p : K × X). R k p.0 ≡ Less) same below.0
    | inr behind ↦ entry_above k es below.1 q x behind
  ]

  module _ (exact : CmpEqualImpliesEq R) (k : K) where
    -- an entry at another key is not the one at an equal key
    elsewhere : (e : K × X) (q : K) (x : X) → R k e.0 ≡ Equal → (q ≡ k → ⊥) → e ≡ (q, x) → ⊥
    elsewhere e q x is apart same = apart (sym (exact k e.0 is ∙ ap (λ (p : K × X). p.0) same))

    -- the first entry, as one of them
    first_of : (e : K × X) (es : List (K × X)) (q : K) (x : X) → e ≡ (q, x) → Contains (e ∷ es) (q, x)
    first_of e es q x same = subst (λ (p : K × X). Contains (e ∷ es) p) same (contains_first e es)

    -- ---- one is put in

    module _ (v : X) where
      -- it is there
      pub inserted_there : (es : List (K × X)) → Contains (insert_entry R es k v) (k, v)
      inserted_there [] = contains_first (k, v) []
      inserted_there (e ∷ es) = elim (R k e.0) as (λ r. R k e.0 ≡ r → Contains (match_ordering r ((k, v) ∷ e ∷ es) ((e.0, v) ∷ es) (e ∷ insert_entry R es k v)) (k, v)) [
        | Less ↦ λ is. contains_first (k, v) (e ∷ es)
        | Equal ↦ λ is. subst (λ (q : K). Contains ((q, v) ∷ es) (k, v)) (exact k e.0 is) (contains_first (k, v) es)
        | Greater ↦ λ is. contains_behind e (insert_entry R es k v) (k, v) (inserted_there es)
      ] refl

      -- the entries at other keys stay
      pub inserted_stays : (q : K) (x : X) → (q ≡ k → ⊥) → (es : List (K × X)) → Contains es (q, x) → Contains (insert_entry R es k v) (q, x)
      inserted_stays q x apart [] has = absurd (omega (arith, has.1))
      inserted_stays q x apart (e ∷ es) has =
          let more = insert_entry R es k v in
          elim (R k e.0) as (λ r. R k e.0 ≡ r → Contains (match_ordering r ((k, v) ∷ e ∷ es) ((e.0, v) ∷ es) (e ∷ more)) (q, x)) [
            | Less ↦ λ is. contains_behind (k, v) (e ∷ es) (q, x) has
            | Equal ↦ λ is. elim (contains_cases e es (q, x) has) [
              | inl same ↦ absurd (elsewhere e q x is apart same)
              | inr behind ↦ contains_behind (e.0, v) es (q, x) behind
            ]
            | Greater ↦ λ is. elim (contains_cases e es (q, x) has) [
              | inl same ↦ first_of e more q x same
              | inr behind ↦ contains_behind e more (q, x) (inserted_stays q x apart es behind)
            ]
          ] refl

      -- the new one is at its key
      new_one : (q : K) (x : X) → ◌≡◌ {A = K × X} (k, v) (q, x) → (q ≡ k) × (x ≡ v)
      new_one q x same = (sym (ap (λ (p : K × X). p.0) same), sym (ap (λ (p : K × X). p.1) same))

      -- an entry was there, or is the new one
      pub inserted_from : (q : K) (x : X) (es : List (K × X)) → Contains (insert_entry R es k v) (q, x) → Contains es (q, x) ⊎ ((q ≡ k) × (x ≡ v))
      inserted_from q x [] has = elim (contains_cases (k, v) [] (q, x) has) [ inl same ↦ inr (new_one q x same) | inr behind ↦ inl behind ]
      inserted_from q x (e ∷ es) has =
          let more = insert_entry R es k v in
          elim (R k e.0) as (λ r. R k e.0 ≡ r → Contains (match_ordering r ((k, v) ∷ e ∷ es) ((e.0, v) ∷ es) (e ∷ more)) (q, x) → Contains (e ∷ es) (q, x) ⊎ ((q ≡ k) × (x ≡ v))) [
            | Less ↦ λ is there. elim (contains_cases (k, v) (e ∷ es) (q, x) there) [ inl same ↦ inr (new_one q x same) | inr behind ↦ inl behind ]
            | Equal ↦ λ is there. elim (contains_cases (e.0, v) es (q, x) there) [
              | inl same ↦ inr (new_one q x (ap (λ (y : K). (y, v)) (exact k e.0 is) ∙ same))
              | inr behind ↦ inl (contains_behind e es (q, x) behind)
            ]
            | Greater ↦ λ is there. elim (contains_cases e more (q, x) there) [
              | inl same ↦ inl (first_of e es q x same)
              | inr behind ↦ elim (inserted_from q x es behind) [ inl was ↦ inl (contains_behind e es (q, x) was) | inr here ↦ inr here ]
            ]
          ] refl has

    -- ---- one is taken away

    -- the entries at other keys stay
    pub removed_stays : (q : K) (x : X) → (q ≡ k → ⊥) → (es : List (K × X)) → Contains es (q, x) → Contains (remove_entry (is_at (R k)) es) (q, x)
    removed_stays q x apart [] has = has
    removed_stays q x apart (e ∷ es) has =
        let less = remove_entry (is_at (R k)) es in
        let on : Contains (e ∷ less) (q, x) = elim (contains_cases e es (q, x) has) [
          | inl same ↦ first_of e less q x same
          | inr behind ↦ contains_behind e less (q, x) (removed_stays q x apart es behind)
        ] in
        elim (R k e.0) as (λ r. R k e.0 ≡ r → Contains (cond (is_eq r) es (e ∷ less)) (q, x)) [
          | Less ↦ λ is. on
          | Equal ↦ λ is. elim (contains_cases e es (q, x) has) [
            | inl same ↦ absurd (elsewhere e q x is apart same)
            | inr behind ↦ behind
          ]
          | Greater ↦ λ is. on
        ] refl

    -- what is left was there, at another key
    pub removed_from : (o : IsTotalOrder R) (q : K) (x : X) (es : List (K × X)) → IsStrictlySortedBy R (keys_of es) → Contains (remove_entry (is_at (R k)) es) (q, x) → Contains es (q, x) × (q ≡ k → ⊥)
    removed_from o q x [] sorted has = absurd (omega (arith, has.1))
    removed_from o q x (e ∷ es) sorted has =
        let less = remove_entry (is_at (R k)) es in
        let on : is_eq (R k e.0) ≡ false → Contains (e ∷ less) (q, x) → Contains (e ∷ es) (q, x) × (q ≡ k → ⊥) = λ off there. elim (contains_cases e less (q, x) there) [
          | inl same ↦ (
            first_of e es q x same,
            (λ here. true≢false (sym ((eq_by_cmp_equiv o).refl k) ∙ subst (λ (y : K). is_eq (R k y) ≡ false) (ap (λ (p : K × X). p.0) same ∙ here) off)),
          )
          | inr behind ↦
              let was = removed_from o q x es (sorted_tail R e.0 (keys_of es) sorted) behind in
              (contains_behind e es (q, x) was.0, was.1)
        ] in
        elim (R k e.0) as (λ r. R k e.0 ≡ r → Contains (cond (is_eq r) es (e ∷ less)) (q, x) → Contains (e ∷ es) (q, x) × (q ≡ k → ⊥)) [
          | Less ↦ λ is there. on (ap is_eq is) there
          | Equal ↦ λ is there.
              let above : R e.0 q ≡ Less = entry_above e.0 es (sorted_head R e.0 (keys_of es) sorted) q x there in (
                contains_behind e es (q, x) there,
                (λ here. not_below R o k (subst (λ (y : K). R k y ≡ Less) here (subst (λ (y : K). R y q ≡ Less) (sym (exact k e.0 is)) above))),
              )
          | Greater ↦ λ is there. on (ap is_eq is) there
        ] refl has
