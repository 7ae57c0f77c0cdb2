-- The entries that are tried one after the other: those before have no step.
use Rattle.std.proofs.Common.{◌≡◌, ℕ, zero, suc, ◌+◌, ◌<◌, List, [], ◌∷◌, ◌++◌, ◌-◌, take, drop, Some, None, refl, sym, ap, subst, ◌∙◌, arith}
use Rattle.std.specs.Prelude.{slice_get, All}
use Rattle.std.proofs.lemmas.List.{append_assoc, append-nil}
use Rattle.std.proofs.lemmas.List.Elements.{All-nil, All-push}
use Rattle.std.proofs.lemmas.Option.{same_Some}
use Rattle.fa_capture.specs.Message.{Message}
use Rattle.fa_ledger.specs.declared.calls.Calls.{Calls}
use Rattle.fa_tree.specs.State.{TreeState}
use Rattle.fa_tree.specs.declared.error.StepError.TheVariants.{Refused}
use Rattle.fa_order.specs.declared.entry.Entry.{Entry}
use Rattle.fa_check.specs.declared.placing.Placing.{Placing}
use Rattle.fa_check.specs.Verdicts.{AreMessagesOf}
use Rattle.fa_check.specs.Replays.{IsReplayed, NextFails}
use Rattle.fa_check.proofs.CallerLemmas.{replayed_step, refused_no_step}
use Rattle.fa_propose.specs.declared.rank.Rank.{Rank}
use Rattle.fa_propose.specs.declared.proposing.TheConstants.{MAX_TRIED}
use Rattle.fa_propose.specs.parts.Ready.{MayEachComeNext, HasNoEntryStep, IsTriedSo, IsFirstRefused}
use Rattle.fa_propose.proofs.NextLemmas.{found_there}

-- These were tried, and have no step; those are not tried yet.
pub record AreTriedSoFar (calls : Calls) (tree : TreeState) (placing : Placing) (ready tried rest : List (Rank × Entry)) : Type 0 where
  pub parts : take MAX_TRIED ready ≡ tried ++ rest
  pub none : (c : List Message) (first : TreeState) (es : List Entry) → AreMessagesOf calls c → IsReplayed calls first tree es placing → MayEachComeNext c es ready
      → All (HasNoEntryStep c tree) tried

-- ---- as many as are tried

-- the first of them
pub one_taken : {X : Type 0} (n m : ℕ) (xs ys : List X) (x : X) → xs ≡ x ∷ ys → m + 1 ≡ n → take n xs ≡ x ∷ take m ys
one_taken n m xs ys x parts count =
    let number : suc m ≡ n = omega (arith, count) in
    subst (λ (k : ℕ). take k xs ≡ x ∷ take m ys) number (ap (take (suc m)) parts)

-- there is none
pub none_left : {X : Type 0} (n : ℕ) (xs : List X) → (0 < n → xs ≡ []) → take n xs ≡ []
none_left zero xs empty = refl
none_left (suc n) xs empty = ap (take (suc n)) (empty (omega arith))

-- the first of all, and the others
first_parts : {X : Type 0} (xs : List X) (x : X) → slice_get xs 0 ≡ Some x → xs ≡ x ∷ drop 1 xs
first_parts [] x is = absurd cc
first_parts (y ∷ xs) x is = ap (λ z. z ∷ xs) (same_Some y x is)

-- ---- what was tried

-- what is replayed up to the same tree and placing
from_here : (calls : Calls) (tree now : TreeState) (placing s : Placing) → now ≡ tree → s ≡ placing → (first : TreeState) (es : List Entry)
    → IsReplayed calls first tree es placing → IsReplayed calls first now es s
from_here calls tree now placing s same_tree same_placing first es so_far =
    subst (λ (p : Placing). IsReplayed calls first now es p) (sym same_placing) (subst (λ (t : TreeState). IsReplayed calls first t es placing) (sym same_tree) so_far)

-- what is placed along calls that stay the same
pub placed_along : (along calls : Calls) (tree now new : TreeState) (placing s t : Placing) (e : Entry) → along ≡ calls → now ≡ tree → s ≡ placing
    → ((first : TreeState) (es : List Entry) → IsReplayed along first now es s → IsReplayed along first new (es ++ e ∷ []) t)
    → (first : TreeState) (es : List Entry) → IsReplayed calls first tree es placing → IsReplayed calls first new (es ++ e ∷ []) t
placed_along along calls tree now new placing s t e is same_tree same_placing placed first es so_far =
    subst (λ (x : Calls). IsReplayed x first new (es ++ e ∷ []) t) is
    (placed first es (subst (λ (x : Calls). IsReplayed x first now es s) (sym is) (from_here calls tree now placing s same_tree same_placing first es so_far)))

-- what fails along them
pub fails_along : (along calls : Calls) (tree now : TreeState) (placing s : Placing) (e : Entry) (code : ℕ) → along ≡ calls → now ≡ tree → s ≡ placing
    → NextFails along now e s (Refused code) → NextFails calls tree e placing (Refused code)
fails_along along calls tree now placing s e code is same_tree same_placing fails =
    subst (λ (x : Calls). NextFails x tree e placing (Refused code)) is
    (subst (λ (t : TreeState). NextFails along t e placing (Refused code)) same_tree
    (subst (λ (p : Placing). NextFails along now e p (Refused code)) same_placing fails))

module _ (calls : Calls) (tree : TreeState) (placing : Placing) (ready : List (Rank × Entry)) where
  -- before the first
  pub none_tried : (p : Rank × Entry) → slice_get ready 0 ≡ Some p → AreTriedSoFar calls tree placing ready [] (p ∷ take (MAX_TRIED - 1) (drop 1 ready))
  none_tried p is = record { parts = ap (take MAX_TRIED) (first_parts ready p is); none = λ c first es is so_far may. All-nil (HasNoEntryStep c tree) }

  -- one more is refused
  pub one_refused : (tried rest : List (Rank × Entry)) (p : Rank × Entry) (code : ℕ) → AreTriedSoFar calls tree placing ready tried (p ∷ rest)
      → NextFails calls tree p.1 placing (Refused code) → AreTriedSoFar calls tree placing ready (tried ++ p ∷ []) rest
  one_refused tried rest p code so_far fails = record {
    parts = so_far.parts ∙ sym (append_assoc tried (p ∷ []) rest);
    none = λ c first es is replayed may.
        All-push (HasNoEntryStep c tree) tried p (so_far.none c first es is replayed may)
        (λ new. refused_no_step calls first tree es p.1 placing code replayed fails c is (may p.0 p.1 (found_there ready tried rest p so_far.parts)) new);
  }

  -- the first of all is refused
  pub first_tried : IsFirstRefused calls tree placing ready → AreTriedSoFar calls tree placing ready (take 1 ready) (take (MAX_TRIED - 1) (drop 1 ready))
  first_tried (found, code, is, fails) =
      subst (λ tried. AreTriedSoFar calls tree placing ready tried (take (MAX_TRIED - 1) (drop 1 ready))) (sym (ap (take 1) (first_parts ready found is)))
      (one_refused [] (take (MAX_TRIED - 1) (drop 1 ready)) found code (none_tried found is) fails)

  -- one is placed
  pub one_placed : (tried rest : List (Rank × Entry)) (p : Rank × Entry) (new : TreeState) (behind : Placing) → AreTriedSoFar calls tree placing ready tried (p ∷ rest)
      → ((first : TreeState) (es : List Entry) → IsReplayed calls first tree es placing → IsReplayed calls first new (es ++ p.1 ∷ []) behind)
      → (c : List Message) (first : TreeState) (es : List Entry) → AreMessagesOf calls c → IsReplayed calls first tree es placing → MayEachComeNext c es ready
      → IsTriedSo c tree new ready (Some p)
  one_placed tried rest p new behind so_far places c first es is replayed may = record {
    earlier = tried;
    later = rest;
    tried = so_far.parts;
    none_before = so_far.none c first es is replayed may;
    steps = replayed_step calls first tree new es p.1 placing behind replayed (places first es replayed) c is;
  }

  -- all are refused
  pub all_tried : (tried : List (Rank × Entry)) → AreTriedSoFar calls tree placing ready tried [] → (new : TreeState) (c : List Message) (first : TreeState) (es : List Entry)
      → AreMessagesOf calls c → IsReplayed calls first tree es placing → MayEachComeNext c es ready → IsTriedSo c tree new ready None
  all_tried tried so_far new c first es is replayed may =
      subst (All (HasNoEntryStep c tree)) (sym (so_far.parts ∙ append-nil tried)) (so_far.none c first es is replayed may)
