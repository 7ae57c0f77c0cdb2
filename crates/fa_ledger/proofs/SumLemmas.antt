-- The least number that passes a test, tests of each number, and sums over one event more.
use Rattle.std.proofs.Common.{◌≡◌, ℕ, zero, suc, ◌+◌, ◌<◌, Bool, true, false, List, [], ◌∷◌, ◌++◌, Some, None, refl, ap, subst, ◌∙◌, inl, inr, arith, append_assoc}
use Rattle.std.specs.Prelude.{◌&&◌, if◌then◌else◌}
use Rattle.std.proofs.lemmas.Bool.{cases_lt}
use Rattle.std.proofs.lemmas.List.{append-nil}
use Rattle.std.specs.Option.{option_or}
use Rattle.fa_session.specs.Events.{PlainEvent}
use Rattle.fa_ledger.specs.Sums.{sum_behind, sum_of, least_below, each_below}

-- ---- the least number

-- a number below a limit and one is below it or is it
pub below_or_last : (P : ℕ → Type 0) (n h : ℕ) → h < suc n → (h < n → P h) → P n → P h
below_or_last P n h below earlier last =
    elim (cases_lt h n) [
      | inl less ↦ earlier less
      | inr not_less ↦ let same : n ≡ h = omega (arith, below, not_less) in subst P same last
    ]

pub least_below-none : (n : ℕ) (test : ℕ → Bool) → least_below n test ≡ None → (h : ℕ) → h < n → test h ≡ false
least_below-none zero test is h below = absurd (omega (arith, below))
least_below-none (suc n) test is h below =
    elim (least_below n test) as (λ t. least_below n test ≡ t → option_or t (if test n then Some n else None) ≡ None → test h ≡ false) [
      | None ↦ λ before now.
          let last : test n ≡ false = elim (test n) as (λ b. (if b then Some n else None) ≡ None → b ≡ false) [ true ↦ λ clash. absurd cc | false ↦ λ fine. refl ] now in
          below_or_last (λ k. test k ≡ false) n h below (least_below-none n test before h) last
      | Some k ↦ λ before now. absurd cc
    ] refl is

pub least_below-found : (n : ℕ) (test : ℕ → Bool) (g : ℕ) → least_below n test ≡ Some g → (g < n) × (test g ≡ true) × ((h : ℕ) → h < g → test h ≡ false)
least_below-found zero test g is = absurd cc
least_below-found (suc n) test g is =
    elim (least_below n test) as (λ t. least_below n test ≡ t → option_or t (if test n then Some n else None) ≡ Some g → (g < suc n) × (test g ≡ true) × ((h : ℕ) → h < g → test h ≡ false)) [
      | None ↦ λ before now.
          let last : (test n ≡ true) × (n ≡ g) = elim (test n) as (λ b. (if b then Some n else None) ≡ Some g → (b ≡ true) × (n ≡ g)) [ true ↦ λ fine. (refl, (let same : n ≡ g = cc in same)) | false ↦ λ clash. absurd cc ] now in
          (omega (arith, last.1), subst (λ k. test k ≡ true) last.1 last.0, λ h below. least_below-none n test before h (omega (arith, below, last.1)))
      | Some k ↦ λ before now.
          let same : k ≡ g = cc in
          let found = least_below-found n test g (before ∙ ap (λ x. Some x) same) in
          (omega (arith, found.0), found.1, found.2)
    ] refl is

-- what passes and has none before it is the least
pub least_below-is : (n : ℕ) (test : ℕ → Bool) (g : ℕ) → g < n → test g ≡ true → ((h : ℕ) → h < g → test h ≡ false) → least_below n test ≡ Some g
least_below-is n test g below passes none =
    elim (least_below n test) as (λ t. least_below n test ≡ t → t ≡ Some g) [
      | None ↦ λ is. let fails = least_below-none n test is g below in absurd cc
      | Some k ↦ λ is.
          let found = least_below-found n test k is in
          let before : k < g → ⊥ = λ less. let fails = none k less in let holds = found.1 in absurd cc in
          let after : g < k → ⊥ = λ less. let fails = found.2 g less in absurd cc in
          let same : k ≡ g = elim (cases_lt k g) [ inl less ↦ absurd (before less) | inr more ↦ elim (cases_lt g k) [ inl less ↦ absurd (after less) | inr not_less ↦ omega (arith, more, not_less) ] ] in
          ap (λ x. Some x) same
    ] refl

-- ---- each number

pub each_below-passes : (n : ℕ) (test : ℕ → Bool) → each_below n test ≡ true → (r : ℕ) → r < n → test r ≡ true
each_below-passes zero test is r below = absurd (omega (arith, below))
each_below-passes (suc n) test is r below =
    let both : (each_below n test ≡ true) × (test n ≡ true) = elim (each_below n test) as (λ b. (b && test n) ≡ true → (b ≡ true) × (test n ≡ true)) [ true ↦ λ fine. (refl, fine) | false ↦ λ clash. absurd cc ] is in
    below_or_last (λ k. test k ≡ true) n r below (each_below-passes n test both.0 r) both.1

pub each_below-is : (n : ℕ) (test : ℕ → Bool) → ((r : ℕ) → r < n → test r ≡ true) → each_below n test ≡ true
each_below-is zero test each = refl
each_below-is (suc n) test each =
    let before : each_below n test ≡ true = each_below-is n test (λ r below. each r (omega (arith, below))) in
    let last : test n ≡ true = each n (omega arith) in
    rw (before, last) refl

-- ---- sums

-- one event more adds what it does after all of them
pub sum_behind-append : (adds : List PlainEvent → PlainEvent → ℕ) (before es : List PlainEvent) (e : PlainEvent)
    → sum_behind adds before (es ++ e ∷ []) ≡ sum_behind adds before es + adds (before ++ es) e
sum_behind-append adds before [] e = grind (arith, append-nil)
sum_behind-append adds before (x ∷ es) e =
    let later = sum_behind-append adds (before ++ x ∷ []) es e in
    let regroup : (before ++ x ∷ []) ++ es ≡ before ++ x ∷ es = append_assoc before (x ∷ []) es in
    let moved : adds ((before ++ x ∷ []) ++ es) e ≡ adds (before ++ x ∷ es) e = ap (λ b. adds b e) regroup in
    omega (arith, later, moved)

pub sum_of-append : (adds : List PlainEvent → PlainEvent → ℕ) (es : List PlainEvent) (e : PlainEvent) → sum_of adds (es ++ e ∷ []) ≡ sum_of adds es + adds es e
sum_of-append adds es e = sum_behind-append adds [] es e
