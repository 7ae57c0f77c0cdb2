-- What an iterator over the items of BATCH_FORGET has left, computed, since what an iterator has left must
-- be a function. Nothing is to be learned here: `items` ensures that these are the items of `HoldsItems`,
-- and bytes hold one such list.
use Rattle.std.specs.Prelude.{ℕ, ◌/◌, zero, suc, List, [], ◌∷◌, length, take, drop}
use Rattle.std.specs.Int.{w64, from_le_bytes}
use Rattle.fa_bodies.specs.declared.forget_one.Items.{Items}

-- the item in the first 16 bytes
unfoldable pub item_in : List ℕ → ℕ × ℕ
item_in bytes = (from_le_bytes w64 (take 8 bytes), from_le_bytes w64 (take 8 (drop 8 bytes)))

-- the first so many items of the bytes
unfoldable pub first_items : ℕ → List ℕ → List (ℕ × ℕ)
first_items zero bytes = []
first_items (suc count) bytes = item_in bytes ∷ first_items count (drop 16 bytes)

-- the items for which there are bytes
unfoldable pub items_in : List ℕ → List (ℕ × ℕ)
items_in bytes = first_items (length bytes / 16) bytes

-- the items that the iterator has not yielded
abbrev pub items_left : Items → List (ℕ × ℕ)
items_left it = items_in it.bytes.now
