-- The moments of an order.
use Rattle.std.specs.Prelude.{◌≡◌, ◌≤◌, ◌<◌, ◌+◌, ℕ, List, None, length, get_or}
use Rattle.fa_order.specs.declared.entry.Entry.{Entry}

-- the message of the entry at this place
abbrev pub message_at : List Entry → ℕ → ℕ
message_at entries k = (get_or entries k (record { at = 0; wrote = None })).at

-- A number for each entry, not below that of its message, never falling along the order, and each that of an entry up to it: so none is
-- less of all that never fall and are not below.
pub record AreMoments (entries : List Entry) (moments : List ℕ) : Type 0 where
  pub each : length moments ≡ length entries
  pub not_before : (k : ℕ) → k < length moments → message_at entries k ≤ get_or moments k 0
  pub rising : (k : ℕ) → k + 1 < length moments → get_or moments k 0 ≤ get_or moments (k + 1) 0
  pub least : (k : ℕ) → k < length moments → (j : ℕ) × ((j ≤ k) × (get_or moments k 0 ≡ message_at entries j))
