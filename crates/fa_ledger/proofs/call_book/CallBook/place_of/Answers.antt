use Rattle.std.proofs.Common.{◌≡◌, ℕ, ◌<◌, ◌≤◌, List, [], ◌∷◌, length, get_or, Option, Some, None, Result, Ok, Err, refl, sym, ap, subst, ◌∙◌, inl, inr, arith, rules}
use Rattle.std.specs.Prelude.{map, slice_get, option_map, IfSome, IfNone}
use Rattle.std.specs.List.Sorted.{IsSearchInRange, IsBinarySearchResult, IsNonDecreasingBy, IsStrictlyIncreasing}
use Rattle.std.specs.Ordering.{nat_cmp, ordering_index}
use Rattle.std.specs.Result.{result_ok}
use Rattle.std.proofs.lemmas.Bool.{cases_lt}
use Rattle.std.proofs.lemmas.Bool.Decides.{nat_tests}
use Rattle.std.proofs.lemmas.Cmp.{ranked}
use Rattle.std.proofs.lemmas.List.{get_or-map, length-map}
use Rattle.std.proofs.lemmas.List.Kept.{AllPairs-from_increasing}
use Rattle.std.proofs.lemmas.List.Sorted.{answers_always}
use Rattle.std.proofs.lemmas.Option.{slice_get-map, slice_get_within, get_or_from_slice_get, same_Some}
use Rattle.fa_ledger.specs.declared.row.Aside.{Aside}
use Rattle.fa_ledger.specs.declared.row.Row.{Row}
use Rattle.fa_ledger.specs.Calls.{PlainCall}
use Rattle.fa_ledger.specs.parts.CallsKept.{CallsKept}
use Rattle.fa_ledger.specs.parts.RowParts.{row_shown}
use Rattle.fa_ledger.proofs.EventLemmas.{element_at}
use Rattle.fa_ledger.proofs.call_book.CallBook.place_of.Goals as goal

-- calls show their numbers
numbers_shown : (aside : Aside) (xs : List Row) → map (λ call. call.asked) (map (row_shown aside) xs) ≡ map (λ call. call.asked) xs
numbers_shown aside [] = refl
numbers_shown aside (x ∷ xs) = ap (λ ns. x.asked ∷ ns) (numbers_shown aside xs)

index_rises : (a b at : ℕ) → a ≤ b → ordering_index (nat_cmp a at) ≤ ordering_index (nat_cmp b at)
index_rises a b at rises = grind (arith, nat_tests, rises)

-- where numbers rise, so do their comparisons with one
comparisons_rise : (xs : List Row) (at : ℕ) → IsStrictlyIncreasing (map (λ call. call.asked) xs) → IsNonDecreasingBy (λ call. ordering_index (nat_cmp call.asked at)) xs
comparisons_rise xs at rise i j d le within =
    let first : get_or (map (λ call. call.asked) xs) i 0 ≡ (get_or xs i d).asked = get_or-map (λ call. call.asked) xs i d 0 (omega (arith, le, within)) in
    let last : get_or (map (λ call. call.asked) xs) j 0 ≡ (get_or xs j d).asked = get_or-map (λ call. call.asked) xs j d 0 within in
    let rises : (get_or xs i d).asked ≤ (get_or xs j d).asked = elim (cases_lt i j) [
      | inl below ↦ omega (arith, first, last, AllPairs-from_increasing (map (λ call. call.asked) xs) rise i j 0 below (omega (arith, within, length-map xs (λ (call : Row). call.asked))))
      | inr same ↦ let here : i ≡ j = omega (arith, le, same) in omega (arith, ap (λ k. (get_or xs k d).asked) here)
    ] in
    index_rises (get_or xs i d).asked (get_or xs j d).asked at rises

-- what is found is a call of this number
found : (aside : Aside) (xs : List Row) (at : ℕ) (r : Result ℕ ℕ) → IsSearchInRange r (length xs) → IsBinarySearchResult (λ call. nat_cmp call.asked at) xs r
    → IfSome (result_ok r) (λ place. (call : PlainCall) × (slice_get (map (row_shown aside) xs) place ≡ Some call) × (call.asked ≡ at))
found aside xs at (Ok place) within equal =
    let one = element_at xs place within in
    let here : get_or xs place one.0 ≡ one.0 = get_or_from_slice_get xs place one.0 one.0 one.1 in
    let asked = ranked (get_or xs place one.0).asked at _ (sym (equal one.0)) in
    (row_shown aside one.0, slice_get-map (row_shown aside) xs place ∙ ap (option_map (row_shown aside)) one.1, subst (λ (x : Row). x.asked ≡ at) here asked)
found aside xs at (Err place) within parted = tt

if_none : (o : Option ℕ) (P : Type 0) → (o ≡ None → P) → IfNone o P
if_none None P holds = holds refl
if_none (Some place) P holds = tt

-- a call of this number is found
none_found : (aside : Aside) (xs : List Row) (at : ℕ) (r : Result ℕ ℕ) → IsBinarySearchResult (λ call. nat_cmp call.asked at) xs r → IsStrictlyIncreasing (map (λ call. call.asked) (map (row_shown aside) xs))
    → (place : ℕ) (call : PlainCall) → slice_get (map (row_shown aside) xs) place ≡ Some call → call.asked ≡ at → result_ok r ≡ None → ⊥
none_found aside xs at (Ok found) searched rise place call there asked none = absurd cc
none_found aside xs at (Err gap) searched rise place call there asked none =
    let within : place < length xs = omega (arith, slice_get_within (map (row_shown aside) xs) place call there, length-map xs (row_shown aside)) in
    let one = element_at xs place within in
    let here : get_or xs place one.0 ≡ one.0 = get_or_from_slice_get xs place one.0 one.0 one.1 in
    let shown : row_shown aside one.0 ≡ call = same_Some (row_shown aside one.0) call (sym (slice_get-map (row_shown aside) xs place ∙ ap (option_map (row_shown aside)) one.1) ∙ there) in
    let equal : (get_or xs place one.0).asked ≡ at = ap (λ (x : Row). x.asked) here ∙ ap (λ (x : PlainCall). x.asked) shown ∙ asked in
    let parted = searched (comparisons_rise xs at (subst IsStrictlyIncreasing (numbers_shown aside xs) rise)) in
    elim (cases_lt place gap) [
      | inl below ↦
          let less : (get_or xs place one.0).asked < at = ranked (get_or xs place one.0).asked at _ (sym (parted.0 place one.0 (omega arith) below)) in
          omega (arith, less, equal)
      | inr above ↦
          let more : at < (get_or xs place one.0).asked = ranked (get_or xs place one.0).asked at _ (sym (parted.1 place one.0 above within)) in
          omega (arith, more, equal)
    ]

pub returns-clause-found : goal.returns-clause-found
returns-clause-found c =
    let facts = c.binary_search_by_key.ensures in
    let by_key = facts.position (λ call. call.asked) (answers_always _ _ _ (λ f a r g called. search rules)) in
    subst (λ (calls : List PlainCall). IfSome c.ok.result (λ place. (call : PlainCall) × (slice_get calls place ≡ Some call) × (call.asked ≡ c.args.at))) (ap (λ (k : CallsKept). k.calls) c.self.view_is)
    (rw (c.ok.ensures.value, ← c.deref.ensures.value) (found c.self.inside.aside c.deref.result.now c.args.at c.binary_search_by_key.result facts.bound by_key))

pub returns-clause-none : goal.returns-clause-none
returns-clause-none c = λ rise.
    let facts = c.binary_search_by_key.ensures in
    let by_key = facts.position (λ call. call.asked) (answers_always _ _ _ (λ f a r g called. search rules)) in
    let items = c.self.inside.rows.items in
    let aside = c.self.inside.aside in
    let searched = subst (λ (xs : List Row). IsBinarySearchResult (λ call. nat_cmp call.asked c.args.at) xs c.binary_search_by_key.result) c.deref.ensures.value by_key in
    let rises : IsStrictlyIncreasing (map (λ call. call.asked) (map (row_shown aside) items)) = subst (λ (calls : List PlainCall). IsStrictlyIncreasing (map (λ call. call.asked) calls)) (sym (ap (λ (k : CallsKept). k.calls) c.self.view_is)) rise in
    subst (λ (calls : List PlainCall). IfNone c.ok.result ((place : ℕ) (call : PlainCall) → slice_get calls place ≡ Some call → call.asked ≡ c.args.at → ⊥)) (ap (λ (k : CallsKept). k.calls) c.self.view_is)
    (if_none c.ok.result ((place : ℕ) (call : PlainCall) → slice_get (map (row_shown aside) items) place ≡ Some call → call.asked ≡ c.args.at → ⊥) (λ none place call there asked.
    none_found aside items c.args.at c.binary_search_by_key.result searched rises place call there asked (sym c.ok.ensures.value ∙ none)))
