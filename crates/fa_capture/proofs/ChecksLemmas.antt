-- Ordered checks: lists of them one after the other, and rules that are checked in two ways.
use Rattle.std.proofs.Common.{◌≡◌, ◌⊎◌, ℕ, List, [], ◌∷◌, ◌++◌, inl, inr, refl, sym, ◌∙◌}
use Rattle.fa_capture.specs.Checks.{FirstFailure, AllHold, checks_of}

-- ---- the code that is told

-- where each check holds there is none
pub no_failure : (checks : List (ℕ × Type 0)) (code : ℕ) → AllHold checks → FirstFailure checks code → ⊥
no_failure [] code hold fails = fails
no_failure (c ∷ later) code hold fails =
    elim fails [ inl here ↦ here.0 hold.0 | inr there ↦ no_failure later code hold.1 there.1 ]

-- there is one at most
pub one_failure : (checks : List (ℕ × Type 0)) (a b : ℕ) → FirstFailure checks a → FirstFailure checks b → a ≡ b
one_failure [] a b fails others = absurd fails
one_failure (c ∷ later) a b fails others =
    elim fails [
      | inl here ↦ elim others [ inl too ↦ here.1 ∙ sym too.1 | inr past ↦ absurd (here.0 past.0) ]
      | inr past ↦ elim others [ inl here ↦ absurd (here.0 past.0) | inr too ↦ one_failure later a b past.1 too.1 ]
    ]

-- each check holds or does not
abbrev pub AreDecided : List (ℕ × Type 0) → Type 0
AreDecided [] = Unit {0}
AreDecided (c ∷ later) = (c.1 ⊎ ¬ c.1) × AreDecided later

-- then all hold, or one is the first that fails
pub decided_either : (checks : List (ℕ × Type 0)) → AreDecided checks → AllHold checks ⊎ ((code : ℕ) × FirstFailure checks code)
decided_either [] decided = inl tt
decided_either (check ∷ later) decided =
    elim decided.0 [
      | inr fails ↦ inr (check.0, inl (fails, refl))
      | inl holds ↦ elim (decided_either later decided.1) [ inl all ↦ inl (holds, all) | inr first ↦ inr (first.0, inr (holds, first.1)) ]
    ]

-- checks never neither hold nor have one that is the first to fail
pub checks_either : (checks : List (ℕ × Type 0)) → ((AllHold checks ⊎ ((code : ℕ) × FirstFailure checks code)) → ⊥) → ⊥
checks_either [] neither = neither (inl tt)
checks_either (check ∷ later) neither =
    let fails : ¬ check.1 = λ holds. checks_either later (λ rest. elim rest [
      | inl all ↦ neither (inl (holds, all))
      | inr first ↦ neither (inr (first.0, inr (holds, first.1)))
    ]) in
    neither (inr (check.0, inl (fails, refl)))

-- ---- checks one after the other

-- a failure among the first checks
pub fails_first : (checks later : List (ℕ × Type 0)) (code : ℕ) → FirstFailure checks code → FirstFailure (checks ++ later) code
fails_first [] later code fails = absurd fails
fails_first (c ∷ checks) later code fails =
    elim fails [ inl here ↦ inl here | inr past ↦ inr (past.0, fails_first checks later code past.1) ]

-- a failure behind checks that hold
pub fails_behind : (checks later : List (ℕ × Type 0)) (code : ℕ) → AllHold checks → FirstFailure later code → FirstFailure (checks ++ later) code
fails_behind [] later code hold fails = fails
fails_behind (c ∷ checks) later code hold fails = inr (hold.0, fails_behind checks later code hold.1 fails)

-- checks that hold, and more that hold
pub hold_both : (checks later : List (ℕ × Type 0)) → AllHold checks → AllHold later → AllHold (checks ++ later)
hold_both [] later hold more = more
hold_both (c ∷ checks) later hold more = (hold.0, hold_both checks later hold.1 more)

-- of checks that hold, those behind the first
pub hold_later : (checks later : List (ℕ × Type 0)) → AllHold (checks ++ later) → AllHold later
hold_later [] later hold = hold
hold_later (c ∷ checks) later hold = hold_later checks later hold.1

-- of checks that hold, those at the front
pub hold_front : (checks later : List (ℕ × Type 0)) → AllHold (checks ++ later) → AllHold checks
hold_front [] later hold = tt
hold_front (c ∷ checks) later hold = (hold.0, hold_front checks later hold.1)

-- ---- rules that say the same, checked in two ways

pub lifted_failure : {S : Type 1} (f g : S → Type 0) → ((x : S) → (f x → g x) × (g x → f x)) → (rules : List (ℕ × S)) (code : ℕ) → FirstFailure (checks_of f rules) code → FirstFailure (checks_of g rules) code
lifted_failure f g each [] code fails = fails
lifted_failure f g each (rule ∷ rules) code fails =
    elim fails [
      | inl here ↦ inl ((λ holds. here.0 ((each rule.1).1 holds)), here.1)
      | inr past ↦ inr ((each rule.1).0 past.0, lifted_failure f g each rules code past.1)
    ]

pub lifted_hold : {S : Type 1} (f g : S → Type 0) → ((x : S) → (f x → g x) × (g x → f x)) → (rules : List (ℕ × S)) → AllHold (checks_of f rules) → AllHold (checks_of g rules)
lifted_hold f g each [] hold = hold
lifted_hold f g each (rule ∷ rules) hold = ((each rule.1).0 hold.0, lifted_hold f g each rules hold.1)

-- none of these checks has the code
abbrev pub HaveNot : ℕ → List (ℕ × Type 0) → Type 0
HaveNot code [] = Unit {0}
HaveNot code (check ∷ checks) = (code ≡ check.0 → ⊥) × HaveNot code checks

-- so it is not told
pub not_told : (code : ℕ) (checks : List (ℕ × Type 0)) → HaveNot code checks → FirstFailure checks code → ⊥
not_told code [] others fails = fails
not_told code (check ∷ checks) others fails =
    elim fails [
      | inl here ↦ others.0 here.1
      | inr later ↦ not_told code checks others.1 later.1
    ]
