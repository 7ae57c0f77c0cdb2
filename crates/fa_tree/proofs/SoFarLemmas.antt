-- What was listed so far for a call, one call back at a time.
use Rattle.std.proofs.Common.{append_assoc, ◌≡◌, ℕ, zero, suc, ◌+◌, ◌-◌, ◌<◌, ◌≤◌, true, false, List, [], ◌∷◌, ◌++◌, length, take, get_or, map, Option, Some, None, refl, sym, ap, ◌∙◌, inl, inr, arith}
use Rattle.std.specs.Prelude.{◌==◌, slice_get, option_map, option_and_then}
use Rattle.std.specs.Option.{option_map_or}
use Rattle.std.specs.List.Sorted.{IsStrictlyIncreasing}
use Rattle.std.proofs.Math.Bridge.{le_prop}
use Rattle.std.proofs.Math.Logic.{∥∥₁_elim}
use Rattle.std.proofs.lemmas.Bool.{cases_Bool}
use Rattle.std.proofs.lemmas.Bool.Decides.{nat_tests}
use Rattle.std.proofs.lemmas.List.{length-map, append-nil}
use Rattle.std.proofs.lemmas.List.Kept.{AllPairs-from_increasing}
use Rattle.std.proofs.lemmas.Option.{slice_get_within, slice_get-map, get_or_from_slice_get}
use Rattle.fa_capture.specs.Message.{Message}
use Rattle.fa_bodies.specs.Dirents.{PlainDirent}
use Rattle.fa_ledger.specs.Calls.{PlainCall, AreCalls}
use Rattle.fa_ledger.specs.Passing.{AreGood}
use Rattle.fa_ledger.specs.SoFar.{entries_answered, call_asked, before_of, listed_within, listing_so_far}
use Rattle.fa_ledger.specs.declared.call.Listing.{Listing}
use Rattle.fa_ledger.proofs.CallerLemmas.{moved_on}
use Rattle.fa_tree.specs.parts.TallyParts.{going_on_from}

-- ---- the call of a number

-- the numbers of calls
abbrev pub numbers : List PlainCall → List ℕ
numbers calls = map (λ call. call.asked) calls

-- calls of good messages stand by rising numbers
pub rising : (calls : List PlainCall) (messages : ℕ) → ∥ ((c : List Message) × AreGood c × (messages ≡ length c) × AreCalls c calls) ∥₁ → IsStrictlyIncreasing (numbers calls)
rising calls messages good = ∥∥₁_elim good (hlevel le_prop) (λ some. some.3.exact.rising)

-- a later place has a greater number
abbrev pub Rise : List PlainCall → Type 0
Rise calls = (i j : ℕ) (earlier later : PlainCall) → i < j → slice_get calls i ≡ Some earlier → slice_get calls j ≡ Some later → earlier.asked < later.asked

number_at : (calls : List PlainCall) (k : ℕ) (call : PlainCall) → slice_get calls k ≡ Some call → get_or (numbers calls) k 0 ≡ call.asked
number_at calls k call there =
    get_or_from_slice_get (numbers calls) k call.asked 0 (slice_get-map (λ x. x.asked) calls k ∙ ap (option_map (λ x. x.asked)) there)

pub rise : (calls : List PlainCall) → IsStrictlyIncreasing (numbers calls) → Rise calls
rise calls increase i j earlier later before here there =
    let within : j < length (numbers calls) = omega (arith, slice_get_within calls j later there, length-map calls (λ x. x.asked)) in
    let rises = AllPairs-from_increasing (numbers calls) increase i j 0 before within in
    omega (arith, rises, number_at calls i earlier here, number_at calls j later there)

-- so the call of a number is the first one that has it
first_found : (calls : List PlainCall) (z place : ℕ) (call : PlainCall) → Rise calls → slice_get calls place ≡ Some call → call.asked ≡ z → call_asked calls z ≡ Some call
first_found [] z place call rises there asked = absurd cc
first_found (first ∷ calls) z zero call rises there asked =
    let same : first ≡ call = cc in
    let id : first.asked ≡ z = ap (λ x. x.asked) same ∙ asked in
    let test : (first.asked == z) ≡ true = grind (arith, nat_tests, id) in
    rw test (ap (λ x. Some x) same)
first_found (first ∷ calls) z (suc place) call rises there asked =
    let before : first.asked < call.asked = rises 0 (suc place) first call (omega arith) refl there in
    let test : (first.asked == z) ≡ false = grind (arith, nat_tests, before, asked) in
    rw test (first_found calls z place call (λ i j earlier later less. rises (suc i) (suc j) earlier later (omega (arith, less))) there asked)

pub asked_there : (calls : List PlainCall) (z place : ℕ) (call : PlainCall) → IsStrictlyIncreasing (numbers calls) → slice_get calls place ≡ Some call → call.asked ≡ z → call_asked calls z ≡ Some call
asked_there calls z place call increase = first_found calls z place call (rise calls increase)

-- where no place has a call of a number, there is none
pub asked_nowhere : (calls : List PlainCall) (z : ℕ) → ((place : ℕ) (call : PlainCall) → slice_get calls place ≡ Some call → call.asked ≡ z → ⊥) → call_asked calls z ≡ None
asked_nowhere [] z none = refl
asked_nowhere (first ∷ calls) z none =
    elim (cases_Bool (first.asked == z)) [
      | inl test ↦ let id : first.asked ≡ z = grind (arith, nat_tests, test) in absurd (none 0 first refl id)
      | inr test ↦ rw test (asked_nowhere calls z (λ place. none (suc place)))
    ]

-- ---- one call back

-- what a call goes on from, by what its listing says
pub goes_on : (calls : List PlainCall) (call : PlainCall) (listing : Listing) (before : ℕ × ℕ) → call.listing ≡ Some listing → listing.before ≡ Some before
    → going_on_from calls call ≡ option_map (λ earlier. (earlier, before.1)) (call_asked calls before.0)
goes_on calls call listing before lists from =
    let is : before_of call ≡ Some before = ap (option_and_then (λ x. x.before)) lists ∙ from in
    ap (option_and_then (λ b. option_map (λ earlier. (earlier, b.1)) (call_asked calls b.0))) is

goes_nowhere : (calls : List PlainCall) (call : PlainCall) → before_of call ≡ None → going_on_from calls call ≡ None
goes_nowhere calls call is = ap (option_and_then (λ b. option_map (λ earlier. (earlier, b.1)) (call_asked calls b.0))) is

pub nothing_before : (calls : List PlainCall) (call : PlainCall) (listing : Listing) → call.listing ≡ Some listing → listing.before ≡ None → going_on_from calls call ≡ None
nothing_before calls call listing lists none = goes_nowhere calls call (ap (option_and_then (λ x. x.before)) lists ∙ none)

-- what was listed so far for a call that goes on from this, if it goes on from any
abbrev listed_on : ℕ → List PlainCall → Option (PlainCall × ℕ) → List PlainDirent
listed_on n calls before = option_map_or (λ b. listed_within n calls b.0 ++ take b.1 (entries_answered b.0.operation)) before []

-- the same by the request's number
found_on : (n : ℕ) (calls : List PlainCall) (count : ℕ) (found : Option PlainCall)
    → option_map_or (λ earlier. listed_within n calls earlier ++ take count (entries_answered earlier.operation)) found [] ≡ listed_on n calls (option_map (λ earlier. (earlier, count)) found)
found_on n calls count None = refl
found_on n calls count (Some earlier) = refl

unrolled : (n : ℕ) (calls : List PlainCall) (call : PlainCall) → listed_within (suc n) calls call ≡ listed_on n calls (going_on_from calls call)
unrolled n calls call =
    elim (before_of call) as (λ before.
    option_map_or (λ b. option_map_or (λ earlier. listed_within n calls earlier ++ take b.1 (entries_answered earlier.operation)) (call_asked calls b.0) []) before []
    ≡ listed_on n calls (option_and_then (λ b. option_map (λ earlier. (earlier, b.1)) (call_asked calls b.0)) before)) [
      | None ↦ refl
      | Some b ↦ found_on n calls b.1 (call_asked calls b.0)
    ]

pub listed_more : (n : ℕ) (calls : List PlainCall) (call earlier : PlainCall) (count : ℕ) → going_on_from calls call ≡ Some (earlier, count)
    → listed_within (suc n) calls call ≡ listed_within n calls earlier ++ take count (entries_answered earlier.operation)
listed_more n calls call earlier count goes =
    unrolled n calls call ∙ ap (listed_on n calls) goes

pub listed_none : (n : ℕ) (calls : List PlainCall) (call : PlainCall) → going_on_from calls call ≡ None → listed_within n calls call ≡ []
listed_none zero calls call goes = refl
listed_none (suc n) calls call goes =
    unrolled n calls call ∙ ap (listed_on n calls) goes

-- what is left of what was listed so far for the call at a place, over so many calls back
abbrev pub left_so_far : ℕ → List PlainCall → (place : ℕ) → List PlainDirent
left_so_far n calls place = option_map_or (λ call. listed_within n calls call) (slice_get calls place) []

pub left_at : (n : ℕ) (calls : List PlainCall) (place : ℕ) (call : PlainCall) → slice_get calls place ≡ Some call → left_so_far n calls place ≡ listed_within n calls call
left_at n calls place call there = ap (λ o. option_map_or (λ (x : PlainCall). listed_within n calls x) o []) there

-- all of it is left before the first round
pub all_left : (calls : List PlainCall) (k : ℕ) → left_so_far (k - 0) calls k ++ [] ≡ listing_so_far calls k
all_left calls k = append-nil (left_so_far (k - 0) calls k) ∙ ap (λ n. left_so_far n calls k) (let all : k - 0 ≡ k = omega arith in all)

-- one call back, its entries are noted
pub one_back : (calls : List PlainCall) (rounds round place next : ℕ) (call earlier : PlainCall) (count : ℕ) (noted whole : List PlainDirent)
    → round < rounds → slice_get calls place ≡ Some call → slice_get calls next ≡ Some earlier → going_on_from calls call ≡ Some (earlier, count)
    → left_so_far (rounds - round) calls place ++ noted ≡ whole
    → left_so_far (rounds - (round + 1)) calls next ++ (take count (entries_answered earlier.operation) ++ noted) ≡ whole
one_back calls rounds round place next call earlier count noted whole below there here goes is =
    let n = rounds - (round + 1) in
    let one : rounds - round ≡ suc n = omega arith in
    let left = left_at (rounds - round) calls place call there ∙ ap (λ m. listed_within m calls call) one ∙ listed_more n calls call earlier count goes in
    ap (λ ds. ds ++ (take count (entries_answered earlier.operation) ++ noted)) (left_at n calls next earlier here)
    ∙ sym (append_assoc (listed_within n calls earlier) (take count (entries_answered earlier.operation)) noted)
    ∙ ap (λ ds. ds ++ noted) (sym left) ∙ is

-- nothing is left where the call goes on from none
pub none_back : (calls : List PlainCall) (n place : ℕ) (call : PlainCall) (noted whole : List PlainDirent)
    → slice_get calls place ≡ Some call → going_on_from calls call ≡ None → left_so_far n calls place ++ noted ≡ whole → noted ≡ whole
none_back calls n place call noted whole there goes is =
    ap (λ ds. ds ++ noted) (sym (left_at n calls place call there ∙ listed_none n calls call goes)) ∙ is

-- and nothing is left after the last round
pub none_left : (calls : List PlainCall) (rounds round place : ℕ) (noted whole : List PlainDirent)
    → rounds ≤ round → left_so_far (rounds - round) calls place ++ noted ≡ whole → noted ≡ whole
none_left calls rounds round place noted whole over is =
    let last : rounds - round ≡ 0 = omega arith in
    ap (λ ds. ds ++ noted) (sym (ap (λ n. left_so_far n calls place) last ∙ by (slice_get calls place))) ∙ is
  where
    by : (o : Option PlainCall) → option_map_or (λ call. listed_within 0 calls call) o [] ≡ []
    by None = refl
    by (Some call) = refl

-- ---- the first so many entries

-- one entry more of the first so many
pub taken_more : {X : Type 0} (all front left rest : List X) (x : X) (n m : ℕ) → all ≡ front ++ take n left → left ≡ x ∷ rest → m + 1 ≡ n → all ≡ (front ++ x ∷ []) ++ take m rest
taken_more all front left rest x n m is next one =
    let more : n ≡ suc m = omega (arith, one) in
    moved_on all front (take n left) (take m rest) x is (ap (take n) next ∙ ap (λ k. take k (x ∷ rest)) more)

-- they are all where no entry is left, or none of so many
pub taken_all : {X : Type 0} (all front left : List X) (n : ℕ) → all ≡ front ++ take n left → (0 < n → left ≡ []) → all ≡ front
taken_all all front left zero is ends = is ∙ append-nil front
taken_all all front left (suc n) is ends = is ∙ ap (λ xs. front ++ take (suc n) xs) (ends (omega arith)) ∙ append-nil front
