-- Lines of texts. Each ends with one line feed. The formats are this profile's.
use Rattle.std.specs.Prelude.{◌≡◌, ℕ, List, [], ◌∷◌, ◌++◌, codes}

-- these bytes, and a line feed
abbrev pub line_of : List ℕ → List ℕ
line_of bytes = bytes ++ 10 ∷ []

-- the last line of a text
abbrev pub end_line : List ℕ
end_line = line_of (codes "end")

-- the bytes do not begin with this line
abbrev pub LacksLine : List ℕ → List ℕ → Type 0
LacksLine bytes line = (rest : List ℕ) → bytes ≡ line ++ rest → ⊥
