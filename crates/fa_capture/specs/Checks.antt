-- Tests that are made in a stated order, each with the code that is told where it is the first to fail.
use Rattle.std.specs.Prelude.{◌≡◌, ℕ, List, [], ◌∷◌, ◌⊎◌}

-- The code is that of a check that fails, and each check before it holds.
abbrev pub FirstFailure : List (ℕ × Type 0) → ℕ → Type 0
FirstFailure [] code = ⊥
FirstFailure (c ∷ later) code = ((¬ c.1) × (code ≡ c.0)) ⊎ (c.1 × FirstFailure later code)

-- Each check holds.
abbrev pub AllHold : List (ℕ × Type 0) → Type 0
AllHold [] = Unit {0}
AllHold (c ∷ later) = c.1 × AllHold later

-- Rules of some kind as checks, each with its code: what a rule says where it holds of the things at hand.
abbrev pub checks_of : {S : Type 1} → (S → Type 0) → List (ℕ × S) → List (ℕ × Type 0)
checks_of holds [] = []
checks_of holds (rule ∷ rules) = (rule.0, holds rule.1) ∷ checks_of holds rules
