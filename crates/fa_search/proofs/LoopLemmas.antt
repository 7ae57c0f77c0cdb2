-- Loops that take the elements of a vector.
use Rattle.std.proofs.Common.{◌≡◌, ◌∙◌, ◌<◌, ℕ, Bool, true, false, List, [], ◌∷◌, Option, Some, None, length, get_or, refl, sym, arith}
use Rattle.std.specs.Prelude.{Contains, IsTrue, slice_get}
use Rattle.std.specs.Iterator.{Yields}
use Rattle.std.specs.declared.vec.IntoIter.{IntoIter}
use Rattle.std.specs.Vec.Iter.{into_iter_items, into_iter_len, into_iter_steps}
use Rattle.fa_capture.proofs.CallerLemmas.{contains_first}
use Rattle.std.proofs.lemmas.List.{map-id}
use Rattle.std.proofs.lemmas.Option.{slice_get-get_or}
use Rattle.std.proofs.lemmas.Iterator.Adapters.{YieldsList-from_vec}
use Rattle.std.proofs.lemmas.Iterator.Consumers.{YieldsList-turn, YieldsList-end}

module _ {A Z : Type 0} (all : List A) (s t u : IntoIter A Z) (yielded : List A) (r : Option A) (items : into_iter_items s ≡ all) (many : into_iter_len s ≡ length all)
    (by : Yields (into_iter_steps {X = A} {Z = Z}) s yielded t) where
  -- where it ends all were taken
  pub all_yielded : r ≡ None → into_iter_steps t r u → yielded ≡ all
  all_yielded none steps = sym (map-id yielded) ∙ (YieldsList-end (YieldsList-from_vec all items many) yielded t by r u none steps).0

  -- what is taken is one of them
  pub one_yielded : (x : A) → r ≡ Some x → into_iter_steps t r u → Contains all x
  one_yielded x some steps =
      let turn = YieldsList-turn (YieldsList-from_vec all items many) yielded t by r u x some steps in
      (length yielded, turn.0, sym turn.1)

-- a test that is false is not true
pub not_true : (test : Bool) → test ≡ false → IsTrue test → ⊥
not_true test is holds = let clash : true ≡ false = sym holds ∙ is in absurd cc

-- what stands at a place
pub there_at : {A : Type 0} (xs : List A) (place : ℕ) → place < length xs → (x : A) × (slice_get xs place ≡ Some x)
there_at [] place within = absurd (omega (arith, within))
there_at (x ∷ xs) place within = (get_or (x ∷ xs) place x, slice_get-get_or (x ∷ xs) place x within)

-- a list without elements
pub empty_list : {A : Type 0} (xs : List A) → length xs ≡ 0 → xs ≡ []
empty_list [] none = refl
empty_list (x ∷ xs) none = absurd (omega (arith, none))

-- and one with some
pub some_there : {A : Type 0} (xs : List A) → 0 < length xs → (x : A) × Contains xs x
some_there [] some = absurd (omega (arith, some))
some_there (x ∷ xs) some = (x, contains_first x xs)
