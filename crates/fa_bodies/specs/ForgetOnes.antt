-- The items of BATCH_FORGET, and which of them bytes hold. An item is a node id, and how many of its lookups are taken
-- back.
use Rattle.std.specs.Prelude.{◌≡◌, ℕ, ◌<◌, List, [], ◌∷◌, length}
use Rattle.fa_bodies.specs.Fields.{BeginsWith}
use Rattle.fa_bodies.specs.Structs.{forget_one}

-- The bytes begin with these items, one after the other, and the rest stands behind the last.
abbrev pub AreItems : List ℕ → List (ℕ × ℕ) → List ℕ → Type 0
AreItems bytes [] rest = bytes ≡ rest
AreItems bytes (item ∷ items) rest =
    (after : List ℕ) × BeginsWith bytes (forget_one item.0 item.1) after × AreItems after items rest

-- The bytes hold these items: what stands behind the last has no room for another.
abbrev pub HoldsItems : List ℕ → List (ℕ × ℕ) → Type 0
HoldsItems bytes items = (rest : List ℕ) × AreItems bytes items rest × (length rest < 16)
