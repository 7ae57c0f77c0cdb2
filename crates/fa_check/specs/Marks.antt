-- Lists of marks: which are set, which is the first, and how many there are.
use Rattle.std.specs.Prelude.{◌≡◌, ℕ, ◌+◌, ◌≤◌, ◌<◌, Bool, true, false, List, [], ◌∷◌, length, slice_get, Some}

-- the mark at this place is set
abbrev pub IsSet : List Bool → ℕ → Type 0
IsSet marks place = slice_get marks place ≡ Some true

-- the mark at this place is not set
abbrev pub IsUnset : List Bool → ℕ → Type 0
IsUnset marks place = slice_get marks place ≡ Some false

-- there are so many marks, and none is set
pub record AreUnset (count : ℕ) (marks : List Bool) : Type 0 where
  pub sized : length marks ≡ count
  pub none : (place : ℕ) → IsSet marks place → ⊥

-- This is the place of the first mark that is set, or how many there are where none is.
pub record IsFirstSet (marks : List Bool) (first : ℕ) : Type 0 where
  pub within : first ≤ length marks
  pub before : (place : ℕ) → place < first → IsUnset marks place
  pub there : first < length marks → IsSet marks first

-- how many are set
abbrev pub count_set : List Bool → ℕ
count_set [] = 0
count_set (true ∷ marks) = count_set marks + 1
count_set (false ∷ marks) = count_set marks
