-- What a name feeds a hasher.
use Rattle.std.specs.Prelude.{ℕ, List, [], ◌∷◌}
use Rattle.std.specs.Hash.{HashWrites}

-- a name by eight bytes, and what is left
unfoldable pub name_fed : List ℕ → HashWrites
name_fed (a ∷ b ∷ c ∷ d ∷ e ∷ f ∷ g ∷ h ∷ i ∷ left) = (a ∷ b ∷ c ∷ d ∷ e ∷ f ∷ g ∷ h ∷ []) ∷ name_fed (i ∷ left)
name_fed left = left ∷ []
