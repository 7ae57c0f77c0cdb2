-- How much the listings take that are kept.
use Rattle.std.proofs.Common.{◌≡◌, ℕ, zero, suc, ◌+◌, ◌≤◌, Bool, true, false, List, [], ◌∷◌, get_or, Option, None, Some, refl, sym, ap, ◌∙◌, arith}
use Rattle.std.specs.Prelude.{if◌then◌else◌, slice_get, position}
use Rattle.std.specs.List.{sum_by}
use Rattle.std.specs.Map.{lookup, keys_of, values_of}
use Rattle.std.proofs.lemmas.List.Sums.{sum_by-cons, sum_by-swap_remove}
use Rattle.std.proofs.lemmas.Option.{same_Some}
use Rattle.indexmap.specs.IndexMap.{insert_entry, swap_remove_entry}
use Rattle.indexmap.proofs.MapLemmas.{Found-position, Missing-position, swap_remove_entry-found}

module _ {K X : Type 0} (f : X → ℕ) where
  abbrev each : K × X → ℕ
  each e = f e.1

  -- an entry that is put in, or in the place of another, adds no more than its own
  pub sum_put : (eq : K → K → Bool) (k : K) (v : X) (es : List (K × X)) → sum_by each (insert_entry eq es k v) ≤ sum_by each es + f v
  sum_put eq k v [] = let one = sum_by-cons each (k, v) [] in omega (arith, one)
  sum_put eq k v (e ∷ es) = by (eq k e.0) (sum_put eq k v es)
    where
      by : (b : Bool) → sum_by each (insert_entry eq es k v) ≤ sum_by each es + f v
          → sum_by each (if b then (e.0, v) ∷ es else e ∷ insert_entry eq es k v) ≤ sum_by each (e ∷ es) + f v
      by true later = let now = sum_by-cons each (e.0, v) es in let before = sum_by-cons each e es in omega (arith, now, before)
      by false later = let now = sum_by-cons each e (insert_entry eq es k v) in let before = sum_by-cons each e es in omega (arith, now, before, later)

  value_at : (es : List (K × X)) (i : ℕ) (d : K × X) (v : X) → slice_get (values_of es) i ≡ Some v → (get_or es i d).1 ≡ v
  value_at [] i d v there = absurd cc
  value_at (e ∷ es) zero d v there = same_Some e.1 v there
  value_at (e ∷ es) (suc i) d v there = value_at es i d v there

  -- what an entry adds goes with it
  pub sum_taken : (t : K → Bool) (es : List (K × X)) (v : X) → lookup t es ≡ Some v → sum_by each (swap_remove_entry t es) + f v ≡ sum_by each es
  sum_taken t [] v found = absurd cc
  sum_taken t (e ∷ es) v found = by (position t (keys_of (e ∷ es))) refl
    where
      by : (place : Option ℕ) → position t (keys_of (e ∷ es)) ≡ place → sum_by each (swap_remove_entry t (e ∷ es)) + f v ≡ sum_by each (e ∷ es)
      by None none = let clash : Some v ≡ None = sym found ∙ (Missing-position t (e ∷ es) none).value in absurd cc
      by (Some i) at =
          let is = Found-position t (e ∷ es) i at in
          let value = value_at (e ∷ es) i e v (sym is.value ∙ found) in
          rw (swap_remove_entry-found t (e ∷ es) i e at) (ap (λ x. sum_by each (Rattle.std.specs.List.swap_remove (e ∷ es) i e) + f x) (sym value) ∙ sum_by-swap_remove each (e ∷ es) i e is.within)
