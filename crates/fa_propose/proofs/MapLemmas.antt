-- Maps by ordered keys: which entries they have behind a change at one key.
use Rattle.std.proofs.Common.{◌≡◌, true, false, Option, Some, refl, sym, ap, subst, ◌∙◌, inl, inr}
use Rattle.std.specs.Prelude.{◌⊎◌, Contains}
use Rattle.std.proofs.Common.{Ordering, Less, Equal, Greater}
use Rattle.std.specs.Ordering.{is_eq}
use Rattle.std.specs.Cmp.{IsTotalOrder}
use Rattle.std.proofs.lemmas.Bool.{true≢false}
use Rattle.std.proofs.lemmas.Cmp.{eq_by_cmp_equiv}
use Rattle.std.specs.BTreeMap.{BTreeMap, get, is_at, IsOrdered, Updates}
use Rattle.std.proofs.lemmas.Map.Lookups.{CmpEqualImpliesEq}
use Rattle.std.proofs.lemmas.Map.Views.{btree_map_get_iff}

module _ {K X : Type 0} {R : K → K → Ordering} (o : IsTotalOrder R) (exact : CmpEqualImpliesEq R) (m n : BTreeMap K X) (was : IsOrdered R m) (is : IsOrdered R n) (k : K) (w : Option X) (updates : Updates R m n k w) where
  -- another key is told apart
  apart : (q : K) → (q ≡ k → ⊥) → is_at (R k) q ≡ false
  apart q other = by (R k q) refl
    where
      by : (r : Ordering) → R k q ≡ r → is_at (R k) q ≡ false
      by Less e = ap (λ r. is_eq r) e
      by Equal e = absurd (other (sym (exact k q e)))
      by Greater e = ap (λ r. is_eq r) e

  -- what is put at the key is there
  pub put_there : (v : X) → w ≡ Some v → Contains n.entries (k, v)
  put_there v put = (btree_map_get_iff o exact n is k v).0 (updates.1 ∙ put)

  -- the entries at other keys stay
  pub other_stays : (q : K) (x : X) → (q ≡ k → ⊥) → Contains m.entries (q, x) → Contains n.entries (q, x)
  other_stays q x other has = (btree_map_get_iff o exact n is q x).0 (updates.2 q (apart q other) ∙ (btree_map_get_iff o exact m was q x).1 has)

  -- an entry was there, or was put there
  pub there_from : (q : K) (x : X) → Contains n.entries (q, x) → (Contains m.entries (q, x) × (q ≡ k → ⊥)) ⊎ ((q ≡ k) × (w ≡ Some x))
  there_from q x has = by (R k q) refl
    where
      got : get R n q ≡ Some x
      got = (btree_map_get_iff o exact n is q x).1 has

      elsewhere : (r : Ordering) → R k q ≡ r → is_eq r ≡ false → (Contains m.entries (q, x) × (q ≡ k → ⊥)) ⊎ ((q ≡ k) × (w ≡ Some x))
      elsewhere r e differs =
          let off : is_at (R k) q ≡ false = ap (λ r. is_eq r) e ∙ differs in
          inl (
            (btree_map_get_iff o exact m was q x).0 (sym (updates.2 q off) ∙ got),
            (λ same. true≢false (sym (subst (λ (y : K). is_at (R k) y ≡ true) (sym same) ((eq_by_cmp_equiv o).refl k)) ∙ off)),
          )

      by : (r : Ordering) → R k q ≡ r → (Contains m.entries (q, x) × (q ≡ k → ⊥)) ⊎ ((q ≡ k) × (w ≡ Some x))
      by Less e = elsewhere Less e refl
      by Equal e = let same : k ≡ q = exact k q e in inr (sym same, sym updates.1 ∙ subst (λ y. get R n y ≡ Some x) (sym same) got)
      by Greater e = elsewhere Greater e refl
