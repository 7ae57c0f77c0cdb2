-- How far the front of an order goes that is cut at a message.
use Rattle.std.specs.Prelude.{◌≡◌, ◌⊎◌, ℕ, suc, ◌<◌, ◌≤◌, List, length, slice_get, Some}
use Rattle.fa_capture.specs.Message.{Message}
use Rattle.fa_order.specs.declared.entry.Entry.{Entry}
use Rattle.fa_check.specs.Cuts.{IsAnsweredEntry}

-- So many entries are the front, as far as the first n show: none, or the last of them was answered before m; and of the first n
-- none behind them was.
pub record IsEndOfFrontUpTo (c : List Message) (m : ℕ) (es : List Entry) (n count : ℕ) : Type 0 where
  pub last : (count ≡ 0) ⊎ ((k : ℕ) × (e : Entry) × (count ≡ suc k) × (slice_get es k ≡ Some e) × IsAnsweredEntry c m e)
  pub none : (k : ℕ) (e : Entry) → count ≤ k → k < n → slice_get es k ≡ Some e → IsAnsweredEntry c m e → ⊥

-- so many entries are the front of all
abbrev pub IsEndOfFront : List Message → (m : ℕ) → List Entry → (count : ℕ) → Type 0
IsEndOfFront c m es count = IsEndOfFrontUpTo c m es (length es) count
