-- Walks over lists and look-ups in them, for this crate and for those above it.
use Rattle.std.proofs.Common.{◌≡◌, Bool, true, false, cond, List, [], ◌∷◌, length, None, Some, suc, refl, subst, arith}
use Rattle.std.specs.Prelude.{IsTrue}
use Rattle.std.specs.Bool.{MatchBool}
use Rattle.std.specs.List.{All, AllWithin}
use Rattle.std.specs.Map.{lookup}
use Rattle.std.proofs.lemmas.List.Elements.{All-from_all_within}

-- where a walk over a list answered true, this holds of each item
pub walked : {B : Type 0} (r : Bool) (P : B → Type 0) (all : List B) (No : Type 0) → IsTrue r → MatchBool r (AllWithin P all 0 (length all)) No → All P all
walked true P all No is told = All-from_all_within P all told
walked false P all No is told = absurd cc

-- an entry that is found is one of all
pub found_among : {K X : Type 0} (P : K × X → Type 0) (test : K → Bool) (es : List (K × X)) → All P es → (x : X) → lookup test es ≡ Some x
    → (key : K) × (test key ≡ true) × P (key, x)
found_among P test [] all x found = absurd (let clash : None ≡ Some x = found in cc)
found_among {K} {X} P test (e ∷ es) all x found = by (test e.0) refl found (found_among P test es (λ k d less. all (suc k) d (omega arith)) x)
  where
    by : (b : Bool) → test e.0 ≡ b → cond b (Some e.1) (lookup test es) ≡ Some x
        → (lookup test es ≡ Some x → (key : K) × (test key ≡ true) × P (key, x)) → (key : K) × (test key ≡ true) × P (key, x)
    by true is found later =
        let same : e.1 ≡ x = cc in
        (e.0, is, subst (λ y. P (e.0, y)) same (all 0 e (omega arith)))
    by false is found later = later found
